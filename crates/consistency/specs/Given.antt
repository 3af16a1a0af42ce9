-- What the functions below the calls are given beside `AcceptedRows`, and what they promise one another: the one for other
-- crates (`newest_near`), and the private ones.
use Rattle.std.specs.Prelude.{◌≡◌, List, ℕ, suc, ◌-◌, ◌≤◌, ◌<◌, Option, length}
use Rattle.book.specs.declared.Shape.{Shape}
use Rattle.book.specs.declared.TableRows.{TableRows}
use Rattle.book.specs.declared.Process.{Process}
use Rattle.book.specs.declared.Checkpoint.{Checkpoint}
use Rattle.book.specs.declared.Count.{Count}
use Rattle.book.specs.Bounds.{most_processes, entries}
use Rattle.book.specs.View.{count, S, R}
use Rattle.book.specs.Fits.{Placed}
use Rattle.line_theory.specs.Sets.{View}
use Rattle.line_theory.specs.Search.{lowest_offending, sent_to}
use Rattle.consistency.specs.Set.{chosen}
use Rattle.consistency.specs.Known.{counters, named_as}

-- the rows of a book lie in a whole table: of accepted tables, what one who is lent only one of them can ask
pub record Whole (rows : TableRows) (table : List ℕ) : Type 0 where
  pub placed : Placed rows
  pub most : rows.shape.n ≤ most_processes
  pub long : length table ≡ entries

-- and of the received one alone: the counters of process j, numbered from 1, rise from each checkpoint to the next (question 8)
abbrev pub Rises : Shape → List ℕ → ℕ → Type 0
Rises shape received j =
    (r p : ℕ) → p < shape.n → 1 ≤ r → r < count shape (j - 1) → R shape received (j - 1) r p ≤ R shape received (j - 1) (suc r) p

-- the checkpoints of a set, of each process that there is, are in the tables
abbrev pub AllNamed : Shape → List Checkpoint → Type 0
AllNamed shape set = (p : ℕ) → p < shape.n → (1 ≤ chosen set p) × (chosen set p ≤ count shape p)

-- what the checkpoints of a set have sent to process j
abbrev pub AreSentTo : TableRows → List ℕ → List Checkpoint → ℕ → List Count → Type 0
AreSentTo rows sent set j known = (p : ℕ) → p < rows.shape.n → counters known p ≡ S rows.shape sent p (chosen set p) j

-- process j's checkpoint in a set, tested against what the others' have sent to it
abbrev pub in_set : View → (ℕ → ℕ) → ℕ → Option Process
in_set v c j = named_as (lowest_offending v.n (v.R j (c j)) (sent_to v c j))
