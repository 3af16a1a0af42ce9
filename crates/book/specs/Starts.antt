-- Document 02, E2, "Row starts kept as we go": one statement for all loops that go from process to process.
use Rattle.std.specs.Prelude.{◌≡◌, List, ℕ, ◌+◌, ◌<◌, length, get_or}
use Rattle.book.specs.View.{first_row, first_rows}

-- a running start at process j is "the sum of the counts before it": each loop's invariant says it of the row that the loop carries
abbrev pub RowStart : List ℕ → ℕ → ℕ → Type 0
RowStart counts j row = row ≡ first_row counts j

-- "carry a running start from process to process": 0 at the first, and after each process as much more as it has checkpoints
pub record CarriedOn (counts : List ℕ) : Type 0 where
  pub begins : RowStart counts 0 0
  pub next : (j row : ℕ) → RowStart counts j row → RowStart counts (j + 1) (row + get_or counts j 0)

abbrev pub StartsCarried : Type 0
StartsCarried = (counts : List ℕ) → CarriedOn counts

-- so all starts that are carried along the counts are "at each .. the sum of the counts before it"
abbrev pub StartsAreSums : Type 0
StartsAreSums = (counts : List ℕ) (j : ℕ) → j < length counts → RowStart counts j (get_or (first_rows counts) j 0)
