-- What a question of one row of a table is given.
use Rattle.std.specs.Prelude.{◌≡◌, Bool, false, List, ℕ, ◌*◌, ◌≤◌}
use Rattle.book.specs.Bounds.{row_width}
use Rattle.book.specs.Fits.{RowsFit}

-- a row of process j starts at this entry of a whole table, and unless it is the oldest there is one before it
pub record RowFits (oldest : Bool) (n j start : ℕ) (table : List ℕ) : Type 0 where
  pub row : ℕ
  pub starts : start ≡ row * row_width
  pub fits : RowsFit n j row 1 table
  pub later : oldest ≡ false → row_width ≤ start
