-- Row starts, carried from process to process: each is the sum of the counts before it, and one loop finds all.
use mathlib.Core.Path.{◌≡◌, refl, sym, subst, ◌∙◌, ap}
use mathlib.Core.List.{List, [], ◌∷◌}
use Prim.Native.Nat.{ℕ, zero, suc, ◌+◌, ◌≤◌, ◌<◌}
use native.Mathlib.Numerals.{add-one}
use native.Mathlib.Omega.{arith}
use lib.ListN.{length, get_or, set}
use lib.Seq.{get_or-set_same, take-set-le}
use Rattle.lists.proofs.Over.{tab_is}
use Rattle.lists.proofs.Filling.{Filled, filled_all}
use Rattle.book.specs.declared.Shape.{Shape}
use Rattle.book.specs.declared.TableRows.{TableRows}
use Rattle.book.specs.Lent.{lent}
use Rattle.book.specs.View.{sum, first_row, starts_from, first_rows, counter_from, counter_at, count}
use Rattle.book.specs.Starts.{RowStart, StartsCarried, StartsAreSums}
use Rattle.book.specs.Fits.{Placed}
use Rattle.book.specs.Accepted.{AreAccepted, AcceptedRows}
use Rattle.book.proofs.Sums.{sum_more, sum_take, row_within}

pub starts_carried : StartsCarried
unfolding sum
starts_carried counts = record { begins = refl; next = λ j row e. rw (add-one j, sum_more counts j, e) }

-- a count that is stored as its process is reached takes the start on, too
pub start_stored : (counts : List ℕ) (j row count : ℕ) → j < length counts → RowStart counts j row
    → RowStart (set counts j count) (j + 1) (row + count)
start_stored counts j row count h e =
    rw (get_or-set_same counts j count 0 h) at
    ((starts_carried (set counts j count)).next j row (e ∙ ap sum (sym (take-set-le j counts j count (omega arith)))))

get_d_starts : (counts : List ℕ) (first j : ℕ) → j < length counts → get_or (starts_from first counts) j 0 ≡ first + first_row counts j
unfolding starts_from sum
get_d_starts [] first j h = absurd (omega arith)
get_d_starts (count ∷ counts) first zero h = omega arith
get_d_starts (count ∷ counts) first (suc j) h = let ih = get_d_starts counts (first + count) j (omega arith) in omega arith

pub starts_are_sums : StartsAreSums
starts_are_sums counts j h = omega (arith, get_d_starts counts 0 j h)

-- what a call that was lent accepted tables knows of the rows that it finds
pub rows_accepted : {rows : TableRows} {shape : Shape} {sent received : List ℕ} → AreAccepted (lent shape sent received)
    → (rows.shape ≡ shape) × (rows.first ≡ first_rows shape.counts) → AcceptedRows rows sent received
rows_accepted {rows} {shape} {sent} {received} accepted (e, f) =
    record { accepted = subst (λ (s : Shape). AreAccepted (lent s sent received)) (sym e) accepted; starts = rw e f }

-- what one who reads counters of process j needs: where its rows begin, that a checkpoint's row is in the table, and which
-- counter stands there
module _ {rows : TableRows} (placed : Placed rows) (j : ℕ) (h : j < length rows.shape.counts) where
  pub placed_first : RowStart rows.shape.counts j (get_or rows.first j 0)
  placed_first = rw placed.starts (starts_are_sums rows.shape.counts j h)

  pub placed_row : (r : ℕ) → (1 ≤ r) × (r ≤ count rows.shape j) → (1 ≤ r) × (get_or rows.first j 0 + r ≤ 256)
  placed_row r there =
      (there.0, omega (arith, placed_first, row_within rows.shape.counts j r 256 placed.inside there.0 there.1))

  pub placed_counter : (table : List ℕ) (r p : ℕ) → counter_from table (get_or rows.first j 0) r p ≡ counter_at rows.shape.counts table j r p
  placed_counter table r p = ap (λ (first : ℕ). counter_from table first r p) placed_first

-- ---- the loop that finds them

-- the first rows of j processes stand there, and `row` is the start carried to the next
pub record StartsFound (before counts first : List ℕ) (row j : ℕ) : Type 0 where
  pub found : Filled 0 before 16 (first_row counts) first j
  pub start : RowStart counts j row

-- the next start is within the tables too
pub next_within : {row : ℕ} (counts : List ℕ) (j : ℕ) → RowStart counts j row → sum counts ≤ 256 → row + get_or counts j 0 ≤ 256
next_within counts j e h = omega (arith, sum_more counts j, sum_take counts (suc j))

length_starts : (counts : List ℕ) (first : ℕ) → length (starts_from first counts) ≡ length counts
unfolding starts_from
length_starts [] first = refl
length_starts (count ∷ counts) first = ap suc (length_starts counts (first + count))

pub starts_found : {before first : List ℕ} {row j : ℕ} (counts : List ℕ) → length counts ≡ 16 → length before ≡ 16
    → StartsFound before counts first row j → 16 ≤ j → first ≡ first_rows counts
starts_found counts long sixteen so_far h =
    filled_all so_far.found sixteen h
    ∙ sym (tab_is 0 16 (first_row counts) (first_rows counts) (length_starts counts 0 ∙ long) (λ j m. starts_are_sums counts j (omega (arith, long))))
