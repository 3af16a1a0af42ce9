-- Where received counters rise, what follows a checkpoint that is not permitted is not either: so the newest that is can be
-- looked for from any.
use mathlib.Core.Path.{◌≡◌, refl, sym, ap, ◌∙◌}
use mathlib.Core.Bool.{Bool, true, false}
use Prim.Native.Nat.{ℕ, zero, suc, ◌+◌, ◌-◌, ◌≤◌, ◌<◌}
use native.Mathlib.Numerals.{add-one}
use native.Mathlib.Decide.{dec_lt}
use native.Mathlib.Omega.{arith}
use Rattle.line_theory.specs.Search.{permitted, newest}
use Rattle.lists.proofs.Over.{last_no}
use Rattle.line_theory.proofs.Tests.{refused_by, refused_witness}
use Rattle.consistency.proofs.Permits.{newest_none, newest_here}

module _ (n count : ℕ) (rows : ℕ → ℕ → ℕ) (known : ℕ → ℕ) (rises : (r p : ℕ) → p < n → 1 ≤ r → r < count → rows r p ≤ rows (suc r) p) where
  abbrev fine : ℕ → Bool
  fine r = permitted n (rows r) known

  abbrev seek : ℕ → ℕ
  seek r = newest n rows known r

  refused_next : (r : ℕ) → 1 ≤ r → r < count → fine r ≡ false → fine (suc r) ≡ false
  refused_next r a m h =
      let w = refused_witness n (rows r) known h in
      refused_by n (rows (suc r)) known w.0 w.1 (omega (arith, w.2, rises r w.0 w.1 a m))

  -- so many further on
  refused_on : (k r : ℕ) → 1 ≤ r → r + k ≤ count → fine r ≡ false → (fine (r + k) ≡ false) × (seek (r + k) ≡ seek r)
  unfolding newest
  refused_on zero r a m h = let e : r + 0 ≡ r = omega arith in rw e (h, refl)
  refused_on (suc k) r a m h =
      let ih = refused_on k r a (omega arith) h in
      let next : fine (suc (r + k)) ≡ false = refused_next (r + k) (omega arith) (omega arith) ih.0 in
      let e : r + suc k ≡ suc (r + k) = omega arith in
      rw e (next, last_no fine (r + k) next ∙ ih.1)

  -- nothing newer than a checkpoint that is not permitted is found
  refused_from : (r : ℕ) → 1 ≤ r → r ≤ count → fine r ≡ false → seek count ≡ seek r
  refused_from r a m h =
      let e : r + (count - r) ≡ count = omega arith in
      rw e at (refused_on (count - r) r a (omega arith) h).1

  -- older than where the search began: what it began from is not permitted
  pub found_down : (from found : ℕ) → from ≤ count → found ≡ seek from → (found ≡ from → ⊥) → found ≡ seek count
  found_down from found m e other = go (fine from) refl
    where
      some : 1 ≤ from
      some = elim (dec_lt 0 from) [
        | yes l ↦ l
        | no l ↦ let z : from ≡ 0 = omega arith in absurd (other (e ∙ ap seek z ∙ newest_none n rows known ∙ sym z))
      ]

      go : (b : Bool) → fine from ≡ b → found ≡ seek count
      go true k = absurd (other (e ∙ newest_here n rows known from some k))
      go false k = e ∙ sym (refused_from from some m k)

  -- the next is not permitted
  pub found_up : (r : ℕ) → seek r ≡ r → r < count → fine (r + 1) ≡ false → r ≡ seek count
  unfolding newest
  found_up r e m h =
      let next : fine (suc r) ≡ false = rw (add-one r) at h in
      sym (refused_from (suc r) (omega arith) m next ∙ (last_no fine r next ∙ e))
