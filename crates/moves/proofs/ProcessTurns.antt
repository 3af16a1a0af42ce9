-- The turns of the loop that moves the rows of one process.
use mathlib.Core.Path.{◌≡◌, refl, sym, ap, ap₂, ◌∙◌}
use mathlib.Core.List.{List}
use Prim.Native.Nat.{ℕ, suc, ◌+◌, ◌-◌, ◌*◌, ◌≤◌, ◌<◌}
use native.Mathlib.Numerals.{add-one}
use native.Mathlib.Omega.{arith}
use lib.ListN.{length, get_or}
use lib.Seq.{sets, length-sets}
use Rattle.book.specs.declared.Count.{Count}
use Rattle.lists.proofs.Stores.{sets_append}
use Rattle.lists.specs.Over.{tab}
use Rattle.lists.proofs.Over.{tab_same}
use Rattle.consistency.specs.Known.{counters}
use Rattle.shown.specs.Rows.{rows_to}
use Rattle.moves.specs.Parts.{lowered}
use Rattle.moves.proofs.Rows.{length_rows}
use Rattle.lists.proofs.Stores.{get_d_past}

-- the row of checkpoint r, of those from row `from` on
abbrev pub row_of : List ℕ → ℕ → List Count → ℕ → ℕ → ℕ
row_of table from off r = lowered table (from + (r - 1)) off

-- the first k rows stand at their new place
pub record ProcessMoved (table₀ : List ℕ) (from to kept : ℕ) (off : List Count) (table : List ℕ) (k : ℕ) : Type 0 where
  pub within : k ≤ kept
  pub present : table ≡ sets table₀ (to * 16) (rows_to (row_of table₀ from off) k)

pub process_begun : (table : List ℕ) (from to kept : ℕ) (off : List Count) → ProcessMoved table from to kept off table 0
unfolding rows_to
process_begun table from to kept off = record { within = omega arith; present = refl }

module _ (table₀ : List ℕ) (from to kept : ℕ) (off : List Count) (table : List ℕ) (k : ℕ) (inv : ProcessMoved table₀ from to kept off table k) where
  abbrev done : List ℕ
  done = rows_to (row_of table₀ from off) k

  long : length done ≡ k * 16
  long = length_rows (row_of table₀ from off) k

  pub process_length : length table ≡ length table₀
  process_length = ap length inv.present ∙ length-sets table₀ (to * 16) done

  module _ (le : to ≤ from) where
    -- a row that is still to be moved is as before
    old : (p : ℕ) → lowered table (from + k) off p ≡ row_of table₀ from off (suc k) p
    old p =
        let back : suc k - 1 ≡ k = omega arith in
        let at : ℕ = (from + k) * 16 + p in
        ap (λ (v : ℕ). v - counters off p)
        (ap (λ (l : List ℕ). get_or l at 0) inv.present ∙ get_d_past done table₀ (to * 16) at (omega (arith, long))
        ∙ ap (λ (i : ℕ). get_or table₀ ((from + i) * 16 + p) 0) (sym back))

    pub process_more : (table' : List ℕ) → k < kept → table' ≡ sets table ((to + k) * 16) (tab 16 (lowered table (from + k) off))
        → ProcessMoved table₀ from to kept off table' (k + 1)
    unfolding rows_to
    process_more table' h put =
        let one : tab 16 (lowered table (from + k) off) ≡ tab 16 (row_of table₀ from off (suc k))
        = tab_same 16 16 (lowered table (from + k) off) (row_of table₀ from off (suc k)) refl (λ p _. old p) in
        let place : (to + k) * 16 ≡ to * 16 + length done = omega (arith, long) in
        record {
          within = omega arith;
          present = put
              ∙ ap₂ (λ (l : List ℕ) (i : ℕ). sets l i (tab 16 (lowered table (from + k) off))) inv.present place
              ∙ ap (sets (sets table₀ (to * 16) done) (to * 16 + length done)) one
              ∙ sets_append done (tab 16 (row_of table₀ from off (suc k))) table₀ (to * 16)
              ∙ ap (λ (i : ℕ). sets table₀ (to * 16) (rows_to (row_of table₀ from off) i)) (sym (add-one k));
        }

  pub process_ended : kept ≤ k → table ≡ sets table₀ (to * 16) (rows_to (row_of table₀ from off) kept)
  process_ended h = let all : k ≡ kept = omega (arith, inv.within) in rw all at inv.present
