-- A function of places that has another value at one place, as phases have when a message is delivered there.
use mathlib.Core.Path.{◌≡◌, refl, sym, ap, subst}
use Prim.Native.Nat.{ℕ, ◌+◌, ◌<◌}
use native.Mathlib.Decide.{ℕ_discrete}
use borrow.Author.Tests.{eq-eqb, ne_eqb}
use lib.Dec.{eqb}
use Rattle.lists.specs.Over.{sum_to}
use Rattle.lists.proofs.Over.{sum_less}
use Rattle.lists.specs.Pick.{pick}

-- what holds at one place, and elsewhere, holds everywhere
pub by_place : (P : ℕ → Type 0) (k : ℕ) → P k → ((q : ℕ) → (q ≡ k → ⊥) → P q) → (q : ℕ) → P q
by_place P k here elsewhere q = elim (ℕ_discrete q k) [ yes e ↦ subst P (sym e) here | no other ↦ elsewhere q other ]

abbrev pub changed : {A : Type 0} → (ℕ → A) → ℕ → A → ℕ → A
changed f k a q = pick (eqb q k) a (f q)

module _ {A : Type 0} (f : ℕ → A) (k : ℕ) (a : A) where
  pub changed_here : changed f k a k ≡ a
  changed_here = rw (eq-eqb k k refl)

  pub changed_other : (q : ℕ) → (q ≡ k → ⊥) → changed f k a q ≡ f q
  changed_other q other = rw (ne_eqb q k other)

  -- a sum over all places, when the value there counts one less
  pub changed_sum : (w : A → ℕ) → k < 16 → w a + 1 ≡ w (f k) → sum_to 16 (λ q. w (changed f k a q)) + 1 ≡ sum_to 16 (λ q. w (f q))
  changed_sum w h less =
      sum_less 16 k (λ q. w (f q)) (λ q. w (changed f k a q)) h (rw changed_here less)
      (λ q i other. ap w (changed_other q other))

  -- what holds of the new value there, and of the old ones elsewhere
  pub by_changed : (P : ℕ → A → Type 0) → P k a → ((q : ℕ) → (q ≡ k → ⊥) → P q (f q)) → (q : ℕ) → P q (changed f k a q)
  by_changed P here elsewhere =
      by_place (λ q. P q (changed f k a q)) k (subst (P k) (sym changed_here) here)
      (λ q other. subst (P q) (sym (changed_other q other)) (elsewhere q other))
