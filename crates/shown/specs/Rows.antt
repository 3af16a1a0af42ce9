-- Rows of sixteen, one after another, for whoever writes a table row by row: `row` gives the entry of a checkpoint, which counts
-- from 1, for each partner.
use Rattle.std.specs.Prelude.{List, [], ◌++◌, ℕ, zero, suc}
use Rattle.book.specs.Bounds.{row_width}
use Rattle.lists.specs.Over.{tab}

-- the rows of the first k checkpoints of a process
unfoldable pub rows_to : (ℕ → ℕ → ℕ) → ℕ → List ℕ
rows_to row zero = []
rows_to row (suc k) = rows_to row k ++ tab row_width (row (suc k))

-- the rows of the first k processes
unfoldable pub all_rows_to : (ℕ → ℕ) → (ℕ → ℕ → ℕ → ℕ) → ℕ → List ℕ
all_rows_to count row zero = []
all_rows_to count row (suc j) = all_rows_to count row j ++ rows_to (row j) (count j)
