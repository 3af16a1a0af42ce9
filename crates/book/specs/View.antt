-- The abstract view of accepted tables: counter S and R of process j's checkpoint r for partner p (K 2.2). Processes and
-- partners count from 0, below n, and checkpoints from 1, the oldest, to j's count: beyond that another checkpoint's entry
-- stands at the place.
use Rattle.std.specs.Prelude.{List, [], ◌∷◌, ℕ, ◌+◌, ◌-◌, ◌*◌, take, get_or}
use Rattle.book.specs.declared.Shape.{Shape}
use Rattle.book.specs.Bounds.{row_width}

unfoldable pub sum : List ℕ → ℕ
sum [] = 0
sum (count ∷ counts) = count + sum counts

-- the first row of process j: the counts before it, added up
abbrev pub first_row : List ℕ → ℕ → ℕ
first_row counts j = sum (take j counts)

-- the first rows of all processes: a running start, kept from process to process
unfoldable pub starts_from : ℕ → List ℕ → List ℕ
starts_from first [] = []
starts_from first (count ∷ counts) = first ∷ starts_from (first + count) counts

abbrev pub first_rows : List ℕ → List ℕ
first_rows counts = starts_from 0 counts

-- the counter in a table, of a process whose first row is known
abbrev pub counter_from : List ℕ → ℕ → ℕ → ℕ → ℕ
counter_from table first r p = get_or table ((first + (r - 1)) * row_width + p) 0

-- the counter in a table
abbrev pub counter_at : List ℕ → List ℕ → ℕ → ℕ → ℕ → ℕ
counter_at counts table j r p = counter_from table (first_row counts j) r p

-- how many checkpoints process j has
abbrev pub count : Shape → ℕ → ℕ
count shape j = get_or shape.counts j 0

-- the messages that process j's checkpoint r had sent to partner p, and those it had received from it
abbrev pub S : Shape → List ℕ → ℕ → ℕ → ℕ → ℕ
S shape sent j r p = counter_at shape.counts sent j r p

abbrev pub R : Shape → List ℕ → ℕ → ℕ → ℕ → ℕ
R shape received j r p = counter_at shape.counts received j r p
