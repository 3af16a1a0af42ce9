-- Rows of processes within tables: that they fit.
use mathlib.Core.List.{List}
use Prim.Native.Nat.{ℕ, suc, ◌≤◌, ◌<◌}
use native.Mathlib.Omega.{arith}
use lib.ListN.{take, get_or}
use lib.Seq.{take-take}
use Rattle.book.specs.View.{sum, first_row}
use Rattle.book.specs.Starts.{RowStart}
use Rattle.book.specs.Fits.{RowsFit, BookFits}
use Rattle.book.proofs.Sums.{sum_more, sum_take}

first_within : (counts : List ℕ) (j n : ℕ) → j ≤ n → first_row counts j ≤ sum (take n counts)
first_within counts j n h = rw (← take-take j n counts h) (sum_take (take n counts) j)

pub first_inside : {n j first : ℕ} {counts table : List ℕ} → BookFits n counts table → j ≤ n → RowStart counts j first → first ≤ 256
first_inside {n} {j} {counts = counts} b h e = omega (arith, b.inside, first_within counts j n h)

-- its rows are among all
pub rows_fit : {n j first : ℕ} {counts table : List ℕ} → BookFits n counts table → j < n → RowStart counts j first
    → RowsFit n j first (get_or counts j 0) table
rows_fit {n} {j} {counts = counts} b h e =
    record {
      present = h;
      most = b.most;
      inside = omega (arith, b.inside, sum_more counts j, first_within counts (suc j) n h);
      whole = b.whole;
    }
