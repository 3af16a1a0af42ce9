-- One sweep over all entries of a matrix, instead of row by row or column by column.
use mathlib.Core.Path.{◌≡◌, refl, sym, ap, ◌∙◌}
use mathlib.Core.Bool.{Bool, true, false, not, ◌&&◌, ◌||◌, and-true, and_comm}
use mathlib.Core.List.{List}
use Prim.Native.Nat.{ℕ, ◌+◌, ◌*◌, ◌/◌, ◌%◌, ◌≤◌, ◌<◌}
use native.Mathlib.Decide.{ℕ_discrete}
use native.Mathlib.Numerals.{add-one}
use native.Mathlib.Omega.{arith}
use borrow.Author.Tests.{eq-eqb, ne_eqb}
use lib.Dec.{leb, eqb}
use lib.ListN.{length, get_or, set, replicate, length-set, get_or-replicate}
use lib.Seq.{get_or-set_same, get_or-set_other}
use Rattle.book.specs.declared.Count.{Count}
use Rattle.lists.specs.Over.{all_to}
use Rattle.lists.proofs.Over.{all_in, all_out, all_same, get_d_tab, tab_is}
use Rattle.consistency.specs.Known.{counters}
use Rattle.matrix.specs.Matrix.{entry, row, column}
use Rattle.matrix.specs.Entries.{same, none_above}
use Rattle.matrix.specs.Whole.{all_none_above, columns_differ}
use Rattle.matrix.proofs.Rows.{counter_of_row}

-- ---- no entry above the copy's: the answer for the entries so far

module _ (matrix copy : List Count) where
  abbrev not_above : ℕ → Bool
  not_above i = leb (counters matrix i) (counters copy i)

  abbrev not_above_in : ℕ → ℕ → Bool
  not_above_in j p = leb (counters (row matrix j) p) (counters (row copy j) p)

  in_row : (j p : ℕ) → p < 16 → not_above_in j p ≡ not_above (j * 16 + p)
  in_row j p h =
      λ i. leb (counter_of_row (λ q. entry matrix j q) p h i) (counter_of_row (λ q. entry copy j q) p h i)

  by_rows : all_to 256 not_above ≡ all_none_above matrix copy
  unfolding all_none_above none_above
  by_rows =
      all_same 256 16 not_above (λ j. all_to 16 (not_above_in j))
      (λ flat j h. all_out 16 (not_above_in j) (λ p m. in_row j p m ∙ flat (j * 16 + p) (omega arith)))
      (λ rows i h.
      let e : i ≡ i / 16 * 16 + i % 16 = omega arith in
      let in_its_row : i % 16 < 16 = omega arith in
      ap not_above e
      ∙ sym (in_row (i / 16) (i % 16) in_its_row)
      ∙ all_in 16 (not_above_in (i / 16)) (rows (i / 16) (omega arith)) (i % 16) in_its_row)

pub record Below (matrix copy : List Count) (below : Bool) (i : ℕ) : Type 0 where
  pub within : i ≤ 256
  pub so_far : below ≡ all_to i (not_above matrix copy)

pub below_none : (matrix copy : List Count) → Below matrix copy true 0
unfolding all_to
below_none matrix copy = record { within = omega arith; so_far = refl }

module _ (matrix copy : List Count) (below : Bool) (i : ℕ) (b : Below matrix copy below i) where
  pub below_next : i < 256 → (next : Bool) → next ≡ (leb (counters matrix i) (counters copy i) && below) → Below matrix copy next (i + 1)
  unfolding all_to
  below_next h next e =
      record {
        within = omega arith;
        so_far = rw add-one
            (e ∙ and_comm (not_above matrix copy i) below ∙ ap (λ (t : Bool). t && not_above matrix copy i) b.so_far);
      }

  pub below_all : 256 ≤ i → below ≡ all_none_above matrix copy
  below_all h =
      let e : i ≡ 256 = omega (arith, b.within) in
      b.so_far ∙ ap (λ (k : ℕ). all_to k (not_above matrix copy)) e ∙ by_rows matrix copy

-- ---- whose column differs: the answer for the entries so far

module _ (matrix copy : List Count) where
  -- an entry is the copy's, or is in another column
  abbrev same_in : ℕ → ℕ → Bool
  same_in p i = not (eqb (i % 16) p) || eqb (counters matrix i) (counters copy i)

  here : (p i : ℕ) → i % 16 ≡ p → same_in p i ≡ eqb (counters matrix i) (counters copy i)
  here p i e = rw (eq-eqb (i % 16) p e)

  elsewhere : (p i : ℕ) → (i % 16 ≡ p → ⊥) → same_in p i ≡ true
  elsewhere p i ne = rw (ne_eqb (i % 16) p ne)

  in_column : (p j : ℕ) → p < 16 → j < 16 → same_in p (j * 16 + p) ≡ eqb (counters (column matrix p) j) (counters (column copy p) j)
  in_column p j h m =
      here p (j * 16 + p) (omega arith)
      ∙ sym (λ i. eqb (counter_of_row (λ k. entry matrix k p) j m i) (counter_of_row (λ k. entry copy k p) j m i))

  by_columns : (p : ℕ) → p < 16 → all_to 256 (same_in p) ≡ same (column matrix p) (column copy p)
  unfolding same
  by_columns p h =
      all_same 256 16 (same_in p) (λ j. eqb (counters (column matrix p) j) (counters (column copy p) j))
      (λ flat j m. sym (in_column p j h m) ∙ flat (j * 16 + p) (omega arith))
      (λ columns i m.
      elim (ℕ_discrete (i % 16) p) [
        | yes e ↦
            let at : i ≡ i / 16 * 16 + p = omega arith in
            ap (same_in p) at ∙ in_column p (i / 16) h (omega arith) ∙ columns (i / 16) (omega arith)
        | no ne ↦ elsewhere p i ne
      ])

pub record Differ (matrix copy : List Count) (flags : List Bool) (i : ℕ) : Type 0 where
  pub within : i ≤ 256
  pub long : length flags ≡ 16
  pub so_far : (p : ℕ) → p < 16 → get_or flags p false ≡ not (all_to i (same_in matrix copy p))

pub differ_none : (matrix copy : List Count) → Differ matrix copy (replicate 16 false) 0
unfolding all_to
differ_none matrix copy =
    record { within = omega arith; long = refl; so_far = λ p h. get_or-replicate 16 p false false h }

module _ (matrix copy : List Count) (flags : List Bool) (i : ℕ) (d : Differ matrix copy flags i) where
  either_not : (s t : Bool) → (not t || not s) ≡ not (s && t)
  either_not true true = refl
  either_not true false = refl
  either_not false true = refl
  either_not false false = refl

  pub differ_next : i < 256 → (next : Bool) → next ≡ (not (eqb (counters matrix i) (counters copy i)) || get_or flags (i % 16) false)
      → Differ matrix copy (set flags (i % 16) next) (i + 1)
  unfolding all_to
  differ_next h next e =
      record {
        within = omega arith;
        long = simp length-set d.long;
        so_far = λ p m.
            rw add-one
            (elim (ℕ_discrete p (i % 16)) [ yes same_place ↦ rw same_place own | no ne ↦ other p m ne ]);
      }
    where
      own : get_or (set flags (i % 16) next) (i % 16) false ≡ not (all_to i (same_in matrix copy (i % 16)) && same_in matrix copy (i % 16) i)
      own =
          get_or-set_same flags (i % 16) next false (omega (arith, d.long))
          ∙ e
          ∙ ap (λ (t : Bool). not (eqb (counters matrix i) (counters copy i)) || t) (d.so_far (i % 16) (omega arith))
          ∙ either_not (all_to i (same_in matrix copy (i % 16))) (eqb (counters matrix i) (counters copy i))
          ∙ ap (λ (t : Bool). not (all_to i (same_in matrix copy (i % 16)) && t)) (sym (here matrix copy (i % 16) i refl))

      other : (p : ℕ) → p < 16 → (p ≡ i % 16 → ⊥)
          → get_or (set flags (i % 16) next) p false ≡ not (all_to i (same_in matrix copy p) && same_in matrix copy p i)
      other p m ne =
          get_or-set_other flags (i % 16) p next false ne
          ∙ d.so_far p m
          ∙ ap not (sym (and-true (all_to i (same_in matrix copy p))))
          ∙ ap (λ (t : Bool). not (all_to i (same_in matrix copy p) && t)) (sym (elsewhere matrix copy p i (λ q. ne (sym q))))

  pub differ_all : 256 ≤ i → flags ≡ columns_differ matrix copy
  unfolding columns_differ
  differ_all h =
      let e : i ≡ 256 = omega (arith, d.within) in
      tab_is false 16 (λ p. not (same (column matrix p) (column copy p))) flags d.long
      (λ p m. d.so_far p m ∙ ap (λ (k : ℕ). not (all_to k (same_in matrix copy p))) e ∙ ap not (by_columns matrix copy p m))

-- what each flag says
pub differs_at : (matrix copy : List Count) (p : ℕ) → p < 16 → get_or (columns_differ matrix copy) p false ≡ not (same (column matrix p) (column copy p))
unfolding columns_differ
differs_at matrix copy p h = get_d_tab 16 (λ k. not (same (column matrix k) (column copy k))) p false h
