-- The rows of one process in a table: a row more, and all of them.
use mathlib.Core.Path.{◌≡◌, refl, sym, ap, ap₂, ◌∙◌}
use mathlib.Core.Bool.{false}
use mathlib.Core.List.{List, [], ◌++◌, append_assoc, append-nil}
use Prim.Native.Nat.{ℕ, suc, ◌+◌, ◌*◌, ◌-◌, ◌≤◌, ◌<◌}
use native.Mathlib.Nat.{add-mul}
use native.Mathlib.Decide.{dec_lt}
use native.Mathlib.Omega.{arith}
use borrow.Author.Tests.{eqb-false}
use lib.ListN.{length, take, drop, length-append}
use lib.Seq.{sets, length-sets}
use lib.Dec.{eqb}
use Rattle.book.specs.Layout.{width, checkpoints_in}
use Rattle.book.specs.Tables.{table_row, process_rows}
use Rattle.book.proofs.Rows.{length_row}
use Rattle.lists.proofs.Stores.{sets_append}
use Rattle.reader.specs.Parts.{RowClear, RowsClear, with_rows}
use Rattle.reader.proofs.Stores.{clear_past}

later_row : (first r : ℕ) → eqb r 0 ≡ false → 16 ≤ (first + r) * 16
later_row first r e = elim (dec_lt 0 r) [ yes l ↦ omega arith | no l ↦ absurd (eqb-false r 0 e (omega arith)) ]

rows_next : (half : List ℕ → List ℕ) (j m w : ℕ) (vs : List ℕ)
    → process_rows half j (checkpoints_in (suc m) w vs) ≡ table_row j (half (take w vs)) ++ process_rows half j (checkpoints_in m w (drop w vs))
unfolding checkpoints_in process_rows
rows_next half j m w vs = refl

rows_none : (half : List ℕ → List ℕ) (j w : ℕ) (vs : List ℕ) → process_rows half j (checkpoints_in 0 w vs) ≡ []
unfolding checkpoints_in process_rows
rows_none half j w vs = refl

-- one table: the rows so far stand in it
pub record Rows (half : List ℕ → List ℕ) (n j first count r : ℕ) (whole rest table₀ table : List ℕ) : Type 0 where
  pub done : List ℕ
  pub long : length done ≡ r * 16
  pub present : table ≡ sets table₀ (first * 16) done
  pub all : process_rows half j (checkpoints_in count (width n) whole) ≡ done ++ process_rows half j (checkpoints_in (count - r) (width n) rest)

pub rows_begun : (half : List ℕ → List ℕ) (n j first count : ℕ) (vs table : List ℕ) → Rows half n j first count 0 vs vs table table
rows_begun half n j first count vs table =
    let none : count - 0 ≡ count = omega arith in
    record { done = []; long = refl; present = refl; all = rw none }

module _ (half : List ℕ → List ℕ) (n j first count r : ℕ) (whole rest table₀ table : List ℕ)
    (inv : Rows half n j first count r whole rest table₀ table) where
  pub rows_length : length table ≡ length table₀
  rows_length = ap length inv.present ∙ length-sets table₀ (first * 16) inv.done

  -- there is room for the next row
  pub rows_fit : RowsClear n j first count table₀ → r < count → RowClear (eqb r 0) n j ((first + r) * 16) table
  rows_fit fits h =
      record {
        present = fits.present;
        most = fits.most;
        whole = rows_length ∙ fits.whole;
        inside = omega (arith, fits.inside);
        clear = λ i k.
            rw inv.present (clear_past inv.done table₀ (first * 16) fits.clear i (omega (arith, inv.long)));
        later = later_row first r;
      }

  -- a row more
  pub rows_more : (cs table' : List ℕ) → r < count → half (take (width n) rest) ≡ cs → length cs < 16
      → table' ≡ sets table ((first + r) * 16) (table_row j cs) → Rows half n j first count (r + 1) whole (drop (width n) rest) table₀ table'
  rows_more cs table' h e short put =
      let row : List ℕ = table_row j cs in
      let more : count - r ≡ suc (count - (r + 1)) = omega arith in
      let place : (first + r) * 16 ≡ first * 16 + length inv.done = add-mul first r 16 ∙ ap (λ (k : ℕ). first * 16 + k) (sym inv.long) in
      record {
        done = inv.done ++ row;
        long = length-append inv.done row ∙ ap₂ (λ (a b : ℕ). a + b) inv.long (length_row j cs short) ∙ omega arith;
        present = put ∙ ap₂ (λ (l : List ℕ) (k : ℕ). sets l k row) inv.present place ∙ sets_append inv.done row table₀ (first * 16);
        all = inv.all ∙ ap (λ (m : ℕ). inv.done ++ process_rows half j (checkpoints_in m (width n) rest)) more
            ∙ ap (λ (l : List ℕ). inv.done ++ l) (rows_next half j (count - (r + 1)) (width n) rest
            ∙ ap (λ (c : List ℕ). table_row j c ++ process_rows half j (checkpoints_in (count - (r + 1)) (width n) (drop (width n) rest))) e)
            ∙ sym (append_assoc inv.done row (process_rows half j (checkpoints_in (count - (r + 1)) (width n) (drop (width n) rest))));
      }

  -- all rows
  pub rows_ended : count ≤ r → table ≡ with_rows half n j first count whole table₀
  rows_ended h =
      let none : count - r ≡ 0 = omega arith in
      inv.present
      ∙ ap (sets table₀ (first * 16))
      (sym (inv.all ∙ ap (λ (m : ℕ). inv.done ++ process_rows half j (checkpoints_in m (width n) rest)) none
      ∙ ap (λ (l : List ℕ). inv.done ++ l) (rows_none half j (width n) rest) ∙ append-nil inv.done))
