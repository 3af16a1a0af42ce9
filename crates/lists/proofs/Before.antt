-- A loop that goes up: what holds of every number before the present one.
use mathlib.Core.Path.{◌≡◌, sym, subst}
use mathlib.Core.Bool.{Bool, true, false}
use Prim.Native.Nat.{ℕ, ◌+◌, ◌≤◌, ◌<◌}
use native.Mathlib.Decide.{ℕ_discrete}
use native.Mathlib.Omega.{arith}
use Rattle.lists.specs.Over.{all_to}
use Rattle.lists.proofs.Over.{all_out, all_not}

pub below_more : (P : ℕ → Type 0) (i : ℕ) → ((k : ℕ) → k < i → P k) → P i → (k : ℕ) → k < i + 1 → P k
below_more P i before here k h =
    elim (ℕ_discrete k i) [ yes e ↦ subst P (sym e) here | no ne ↦ before k (omega arith) ]

-- it holds of k of the first n numbers
pub record Before (n : ℕ) (P : ℕ → Type 0) (k : ℕ) : Type 0 where
  pub within : k ≤ n
  pub so_far : (i : ℕ) → i < k → P i

module _ {n : ℕ} {P : ℕ → Type 0} where
  pub before_none : Before n P 0
  before_none = record { within = omega arith; so_far = λ i h. absurd (omega arith) }

  module _ {k : ℕ} (before : Before n P k) where
    pub before_more : k < n → P k → Before n P (k + 1)
    before_more h here = record { within = omega arith; so_far = below_more P k before.so_far here }

    pub before_all : n ≤ k → (i : ℕ) → i < n → P i
    before_all h i m = before.so_far i (omega arith)

-- where it is a test: all pass it, or the present one does not
module _ {n : ℕ} {f : ℕ → Bool} {k : ℕ} (before : Before n (λ i. f i ≡ true) k) where
  pub all_pass : n ≤ k → true ≡ all_to n f
  all_pass h = sym (all_out n f (before_all before h))

  pub one_fails : k < n → f k ≡ false → false ≡ all_to n f
  one_fails h e = sym (all_not n f k h e)
