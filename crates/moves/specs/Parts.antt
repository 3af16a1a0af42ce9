-- What the functions that apply a plan promise one another. Rows count from 0.
use Rattle.std.specs.Prelude.{List, ℕ, ◌+◌, ◌-◌, ◌*◌, ◌≤◌, ◌<◌, get_or}
use Rattle.book.specs.declared.Checkpoint.{Checkpoint}
use Rattle.book.specs.declared.Count.{Count}
use Rattle.book.specs.declared.TableRows.{TableRows}
use Rattle.book.specs.Bounds.{most_processes, row_width}
use Rattle.book.specs.Lent.{Tables}
use Rattle.book.specs.View.{count, counter_at}
use Rattle.book.specs.Fits.{Placed}
use Rattle.consistency.specs.Set.{chosen}
use Rattle.consistency.specs.Known.{counters}
use Rattle.matrix.specs.Matrix.{entry}
use Rattle.shown.specs.Rows.{all_rows_to}
use Rattle.restart.specs.Calls.{shape_moved, order_given}
use Rattle.moves.specs.declared.Moved.{Moved}

-- an entry of a row, less what is taken off
abbrev pub lowered : List ℕ → ℕ → List Count → ℕ → ℕ
lowered table row off p = get_or table (row * row_width + p) 0 - counters off p

-- the kept checkpoints of each process are among its own, from its line checkpoint on
pub record Movable (rows : TableRows) (line : List Checkpoint) (kept : List ℕ) : Type 0 where
  pub placed : Placed rows
  pub most : rows.shape.n ≤ most_processes
  pub among : (j : ℕ) → j < rows.shape.n → (1 ≤ chosen line j) × (chosen line j - 1 + get_or kept j 0 ≤ count rows.shape j)

-- the rows that a plan leaves in a table
abbrev pub rows_moved : TableRows → List ℕ → List Checkpoint → List ℕ → List Count → List ℕ
rows_moved rows table line kept off =
    all_rows_to (λ j. get_or kept j 0)
    (λ j r p. counter_at rows.shape.counts table j (chosen line j - 1 + r) p - entry off j p)
    rows.shape.n

-- what the call answers: the moved shape, with the restart order
abbrev pub line_moved : Tables → ℕ → Moved
line_moved tables purpose = record { shape = shape_moved tables purpose; order = order_given tables purpose }
