-- Entries that are all zero: a loop that looks for another.
use mathlib.Core.Path.{◌≡◌, refl, sym, ap, ◌∙◌}
use mathlib.Core.Bool.{Bool, true, false, ◌&&◌, and-true}
use mathlib.Core.List.{List, [], ◌∷◌, ◌++◌}
use Prim.Native.Nat.{ℕ, ◌+◌, ◌-◌, ◌≤◌, ◌<◌}
use native.Mathlib.Numerals.{add-one}
use native.Mathlib.Omega.{arith}
use borrow.Author.Tests.{eq-eqb, ne_eqb}
use lib.ListN.{length, take, get_or, drop_of_length-le}
use lib.Seq.{slice, slice-cons, length-slice, length-take-le, get_or-take, get_or-drop}
use lib.Dec.{eqb}
use Rattle.book.specs.Questions.{all_zero}
use Rattle.book.proofs.Zeros.{zero_at, zero_each}
use Rattle.tables.specs.Sound.{Between}

pub zero_none : all_zero [] ≡ true
unfolding all_zero
zero_none = refl

module _ (v : ℕ) (vs : List ℕ) where
  pub zero_more : v ≡ 0 → all_zero (v ∷ vs) ≡ all_zero vs
  unfolding all_zero
  zero_more h = rw (eq-eqb v 0 h)

  pub zero_fails : (v ≡ 0 → ⊥) → all_zero (v ∷ vs) ≡ false
  unfolding all_zero
  zero_fails h = rw (ne_eqb v 0 h)

pub zero_append : (a b : List ℕ) → all_zero (a ++ b) ≡ (all_zero a && all_zero b)
unfolding all_zero
zero_append [] b = refl
zero_append (v ∷ a) b = and_part (eqb v 0) (zero_append a b)
  where
    and_part : (t : Bool) → all_zero (a ++ b) ≡ (all_zero a && all_zero b) → (t && all_zero (a ++ b)) ≡ ((t && all_zero a) && all_zero b)
    and_part true h = h
    and_part false h = refl

-- `whole` is the answer for all the entries: the entries before i are zero
pub record Zeros (whole : Bool) (l : List ℕ) (to i : ℕ) : Type 0 where
  pub passed : i ≤ to
  pub fits : to ≤ length l
  pub rest : whole ≡ all_zero (slice i to l)

module _ (whole : Bool) (l : List ℕ) (to i : ℕ) (z : Zeros whole l to i) where
  next : i < to → whole ≡ all_zero (get_or l i 0 ∷ slice (i + 1) to l)
  next h = rw add-one (z.rest ∙ ap all_zero (slice-cons i to l 0 h z.fits))

  pub zeros_more : i < to → get_or l i 0 ≡ 0 → Zeros whole l to (i + 1)
  zeros_more h e =
      record { passed = omega arith; fits = z.fits; rest = next h ∙ zero_more (get_or l i 0) (slice (i + 1) to l) e }

  pub zeros_fail : i < to → (get_or l i 0 ≡ 0 → ⊥) → false ≡ whole
  zeros_fail h e = sym (next h ∙ zero_fails (get_or l i 0) (slice (i + 1) to l) e)

  pub zeros_end : to ≤ i → true ≡ whole
  zeros_end h =
      sym (z.rest ∙ ap all_zero (drop_of_length-le (take to l) {i = i} (rw (length-take-le to l z.fits) h)) ∙ zero_none)

-- the same where all entries are looked at: `clear` is the answer for those before i
pub record Clearing (whole : Bool) (l : List ℕ) (to i : ℕ) (clear : Bool) : Type 0 where
  pub passed : i ≤ to
  pub fits : to ≤ length l
  pub rest : whole ≡ (clear && all_zero (slice i to l))

module _ (whole : Bool) (l : List ℕ) (to i : ℕ) (clear : Bool) (z : Clearing whole l to i clear) where
  both : (c : Bool) (v : ℕ) (vs : List ℕ) → (c && all_zero (v ∷ vs)) ≡ ((c && eqb v 0) && all_zero vs)
  unfolding all_zero
  both true v vs = refl
  both false v vs = refl

  pub clearing_more : i < to → (next : Bool) → next ≡ (clear && eqb (get_or l i 0) 0) → Clearing whole l to (i + 1) next
  clearing_more h next e =
      record {
        passed = omega arith;
        fits = z.fits;
        rest = rw add-one (z.rest ∙ ap (λ (s : List ℕ). clear && all_zero s) (slice-cons i to l 0 h z.fits))
            ∙ both clear (get_or l i 0) (slice (i + 1) to l)
            ∙ ap (λ (b : Bool). b && all_zero (slice (i + 1) to l)) (sym e);
      }

  pub clearing_end : to ≤ i → clear ≡ whole
  clearing_end h =
      sym (z.rest
      ∙ ap (λ (b : Bool). clear && b)
      (ap all_zero (drop_of_length-le (take to l) {i = i} (rw (length-take-le to l z.fits) h)) ∙ zero_none)
      ∙ and-true clear)

-- ---- one by one

module _ (from to : ℕ) (l : List ℕ) where
  get_d_slice : (i : ℕ) → from ≤ i → i < to → get_or (slice from to l) (i - from) 0 ≡ get_or l i 0
  get_d_slice i h k =
      let there : from + (i - from) ≡ i = omega arith in
      get_or-drop from (take to l) (i - from) 0 ∙ rw there (get_or-take to l i 0 k)

  pub zeros_each : all_zero (slice from to l) ≡ true → Between from to (λ i. get_or l i 0 ≡ 0)
  zeros_each z i h k = sym (get_d_slice i h k) ∙ zero_at (slice from to l) z (i - from)

  pub each_zeros : to ≤ length l → Between from to (λ i. get_or l i 0 ≡ 0) → all_zero (slice from to l) ≡ true
  each_zeros fits z = zero_each (slice from to l) one
    where
      one : (k : ℕ) → k < length (slice from to l) → get_or (slice from to l) k 0 ≡ 0
      one k m =
          let m' : k < to - from = rw (length-slice from to l fits) at m in
          let back : from + k - from ≡ k = omega arith in
          rw back at (get_d_slice (from + k) (omega arith) (omega arith)) ∙ z (from + k) (omega arith) (omega arith)
