-- What one answer `a` tells of the answer to the whole, which begins with it.
use mathlib.Core.Path.{◌≡◌, sym, ◌∙◌}
use mathlib.Core.Bool.{Bool, true, false, ◌&&◌}
use Prim.Native.Nat.{ℕ}
use Rattle.book.specs.InTurn.{◌then◌}
use Rattle.book.proofs.Questions.{then_passed, then_refused}

module _ (whole a q : ℕ) (later : Unit {0} → ℕ) (e : whole ≡ (q then later)) (same : a ≡ q) where
  pub answer_fails : (a ≡ 0 → ⊥) → a ≡ whole
  answer_fails f = same ∙ sym (e ∙ then_refused q later (λ z. f (same ∙ z)))

  pub answer_passes : a ≡ 0 → whole ≡ later tt
  answer_passes z = e ∙ then_passed q later (sym same ∙ z)

module _ (whole a b rest : Bool) (e : whole ≡ (b && rest)) (same : a ≡ b) where
  pub test_fails : a ≡ false → false ≡ whole
  test_fails f = sym (e ∙ rw (sym same ∙ f))

  pub test_passes : a ≡ true → whole ≡ rest
  test_passes f = e ∙ rw (sym same ∙ f)
