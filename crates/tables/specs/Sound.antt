-- Tables that pass questions 6 to 9, entry by entry: what the fast test looks for. All sixteen columns are looked at
-- alike, since what is unused is zero and so rises too.
use Rattle.std.specs.Prelude.{◌≡◌, Bool, true, List, ℕ, ◌+◌, ◌-◌, ◌*◌, ◌≤◌, ◌<◌, take, get_or}
use Rattle.book.specs.Lent.{Tables}
use Rattle.book.specs.Bounds.{row_width, entries, mark}
use Rattle.book.specs.View.{first_row}
use Rattle.book.specs.Tables.{processes_of}
use Rattle.book.specs.Check.{rows_question}
use Rattle.book.specs.Questions.{unused_zero}

-- every place from one up to another has a property
abbrev pub Between : ℕ → ℕ → (ℕ → Type 0) → Type 0
Between from to P = (i : ℕ) → from ≤ i → i < to → P i

-- it is below the mark
abbrev pub Known : List ℕ → ℕ → Type 0
Known table i = get_or table i 0 < mark

-- a zero stands there
abbrev pub Zero : List ℕ → ℕ → Type 0
Zero table i = get_or table i 0 ≡ 0

-- it is no lower than the entry a row before
abbrev pub Rising : List ℕ → ℕ → Type 0
Rising table i = get_or table (i - row_width) 0 ≤ get_or table i 0

-- the rows of process j, from row `first` on; `zeros` says that the oldest must be zero
pub record RowsSound (zeros : Bool) (n j first count : ℕ) (table : List ℕ) : Type 0 where
  pub known : (r p : ℕ) → r < count → p < row_width → Known table ((first + r) * row_width + p)
  pub oldest : zeros ≡ true → (p : ℕ) → p < row_width → Zero table (first * row_width + p)
  pub rising : (r p : ℕ) → 1 ≤ r → r < count → p < row_width → Rising table ((first + r) * row_width + p)
  pub own : (r : ℕ) → r < count → Zero table ((first + r) * row_width + j)
  pub absent : (r p : ℕ) → r < count → n ≤ p → p < row_width → Zero table ((first + r) * row_width + p)

-- the rows of every process, and zeros after them
pub record TableSound (zeros : Bool) (n : ℕ) (counts table : List ℕ) : Type 0 where
  pub rows : (j : ℕ) → j < n → RowsSound zeros n j (first_row counts j) (get_or counts j 0) table
  pub after : (i : ℕ) → first_row counts n * row_width ≤ i → i < entries → Zero table i

-- no question from 6 to 9 fails
pub record Passed (tables : Tables) : Type 0 where
  pub rows : rows_question mark tables.shape.n (processes_of tables.shape.n 0 (take tables.shape.n tables.shape.counts) tables.sent tables.received) ≡ 0
  pub unused : unused_zero tables ≡ true
