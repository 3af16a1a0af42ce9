-- Accepted tables: what is asked wherever something holds of tables that have passed every question.
use Rattle.std.specs.Prelude.{◌≡◌, List, ℕ, ◌≤◌, length}
use Rattle.book.specs.declared.TableRows.{TableRows}
use Rattle.book.specs.Bounds.{most_processes}
use Rattle.book.specs.Lent.{Tables, lent}
use Rattle.book.specs.View.{first_rows}
use Rattle.book.specs.Check.{tables_question}

-- sixteen counts, and no question of the tables fails (`passed` is not 01's "passed", which is T)
pub record AreAccepted (tables : Tables) : Type 0 where
  pub sixteen : length tables.shape.counts ≡ most_processes
  pub passed : tables_question tables ≡ 0

-- of functions below a call: the first rows, too, that the call has found
pub record AcceptedRows (rows : TableRows) (sent received : List ℕ) : Type 0 where
  pub accepted : AreAccepted (lent rows.shape sent received)
  pub starts : rows.first ≡ first_rows rows.shape.counts

-- and a process of theirs, numbered from 1
abbrev pub IsProcess : TableRows → ℕ → Type 0
IsProcess rows j = (1 ≤ j) × (j ≤ rows.shape.n)
