-- Sums: how far a set is above the line, and how much is left to deliver.
use mathlib.Core.Path.{◌≡◌}
use Prim.Native.Nat.{ℕ, zero, suc, ◌+◌, ◌-◌, ◌*◌, ◌≤◌, ◌<◌}
use native.Mathlib.Nat.{mul-add, mul-le-mul_left}
use native.Mathlib.Decide.{dec_lt}
use native.Mathlib.Omega.{arith}
use Rattle.lists.specs.Over.{sum_to}
use Rattle.lists.proofs.Over.{sum_same}
use Rattle.session_theory.proofs.Search.{Search, size, line_in, Between, height}

-- a set that is nowhere above another, and somewhere below it, is less high
pub less_high : (g : Search) (c d : ℕ → ℕ) → Between g c d → (j : ℕ) → j < size g → c j < d j → height g c + 1 ≤ height g d
less_high g c d between j h less =
    let above : ℕ → ℕ = λ i. c i - line_in g i in
    let above' : ℕ → ℕ = λ i. d i - line_in g i in
    let low : (i : ℕ) → i < size g → above i ≤ above' i = λ i m. omega (arith, (between i m).1) in
    elim (dec_lt (sum_to (size g) above) (sum_to (size g) above')) [
      | yes l ↦ omega arith
      | no l ↦
          let same : above j ≡ above' j = sum_same (size g) above above' low (omega arith) j h in
          absurd (omega (arith, same, (between j h).0))
    ]

-- at most two for each
pub sum_twice : (k : ℕ) (f c : ℕ → ℕ) → ((i : ℕ) → i < k → c i ≤ 2 * f i) → sum_to k c ≤ 2 * sum_to k f
unfolding sum_to
sum_twice zero f c h = omega arith
sum_twice (suc k) f c h =
    let ih : sum_to k c ≤ 2 * sum_to k f = sum_twice k f c (λ i m. h i (omega arith)) in
    omega (arith, h k (omega arith))

-- one wait less is two messages less for each of the others
pub one_wait : (n a b : ℕ) → b + 1 ≤ a → 2 * n + n * (2 * b + 1) ≤ n * (2 * a + 1)
one_wait n a b h =
    let low : n * (2 + (2 * b + 1)) ≤ n * (2 * a + 1) = mul-le-mul_left n (omega arith) in
    let apart : n * (2 + (2 * b + 1)) ≡ n * 2 + n * (2 * b + 1) = mul-add n 2 (2 * b + 1) in
    omega (arith, low, apart)
