-- The newest permitted checkpoint, from what is permitted.
use mathlib.Core.Path.{◌≡◌, refl, sym, ◌∙◌}
use mathlib.Core.Bool.{Bool, true, false}
use Prim.Native.Nat.{ℕ, zero, suc, ◌≤◌, ◌<◌}
use native.Mathlib.Decide.{dec_lt}
use native.Mathlib.Omega.{arith}
use lib.Dec.{leb}
use Rattle.lists.specs.Over.{last_to}
use Rattle.line_theory.specs.Search.{permitted, newest}
use Rattle.lists.proofs.Over.{all_ext, last_yes, last_no, last_back, last_true, last_from}
use Rattle.line_theory.proofs.Steps.{permitted_more}
use Rattle.line_theory.proofs.Tests.{permitted_out}

-- ---- the last at which a test is true

last_weaker : (f g : ℕ → Bool) → ((s : ℕ) → g s ≡ true → f s ≡ true) → (k : ℕ) → last_to g k ≤ last_to f k
last_weaker f g weaker k = elim (dec_lt (last_to g k) 1) [
  | yes l ↦ omega arith
  | no l ↦ last_from f k (last_to g k) (weaker (last_to g k) (last_true g k (omega arith))) (last_back g k)
]

last_ext : (f g : ℕ → Bool) (k : ℕ) → ((s : ℕ) → 1 ≤ s → s ≤ k → f s ≡ g s) → last_to f k ≡ last_to g k
unfolding last_to
last_ext f g zero same = refl
last_ext f g (suc k) same = go (f (suc k)) refl (last_ext f g k (λ s a b. same s a (omega arith)))
  where
    here : f (suc k) ≡ g (suc k)
    here = same (suc k) (omega arith) (omega arith)

    go : (b : Bool) → f (suc k) ≡ b → last_to f k ≡ last_to g k → last_to f (suc k) ≡ last_to g (suc k)
    go true e ih = last_yes f k e ∙ sym (last_yes g k (sym here ∙ e))
    go false e ih = last_no f k e ∙ (ih ∙ sym (last_no g k (sym here ∙ e)))

-- ---- the newest permitted checkpoint

module _ (n : ℕ) (rows rows' : ℕ → ℕ → ℕ) (known known' : ℕ → ℕ) (r : ℕ) where
  -- less known, no later
  pub newest_falls : ((p : ℕ) → p < n → known' p ≤ known p) → newest n rows known' r ≤ newest n rows known r
  unfolding newest
  newest_falls less =
      last_weaker (λ s. permitted n (rows s) known) (λ s. permitted n (rows s) known')
      (λ s h. permitted_more n (rows s) known' known less h) r

  -- the same received counters
  pub newest_same : ((s p : ℕ) → p < n → 1 ≤ s → s ≤ r → rows s p ≡ rows' s p) → newest n rows known r ≡ newest n rows' known r
  unfolding newest permitted
  newest_same same =
      last_ext (λ s. permitted n (rows s) known) (λ s. permitted n (rows' s) known) r
      (λ s a b. all_ext n (λ p. leb (rows s p) (known p)) (λ p. leb (rows' s p) (known p)) (λ p h. rw (same s p h a b)))

  -- there is one, where the oldest has received nothing
  pub newest_some : ((p : ℕ) → p < n → rows 1 p ≡ 0) → 1 ≤ r → (1 ≤ newest n rows known r) × (newest n rows known r ≤ r)
  unfolding newest
  newest_some oldest some =
      let f : ℕ → Bool = λ s. permitted n (rows s) known in (
        last_from f r 1 (permitted_out n (rows 1) known (λ p h. omega (arith, oldest p h))) some,
        last_back f r,
      )
