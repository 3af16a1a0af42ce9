-- Loops: any loop, and sweeps, which look at every place so that the compiler takes several at a time.
use mathlib.Core.Path.{◌≡◌, subst}
use mathlib.Core.Bool.{Bool, true}
use Prim.Native.Nat.{ℕ, zero, suc, ◌+◌, ◌≤◌, ◌<◌}
use native.Mathlib.Numerals.{add-one}
use native.Mathlib.Omega.{arith}
use Rattle.lists.proofs.Before.{below_more}
use Rattle.tables.specs.Sound.{Between}

-- what holds at first and is kept each time holds at the end
pub repeated : (P : ℕ → Type 0) (n : ℕ) → P 0 → ((k : ℕ) → k < n → P k → P (k + 1)) → P n
repeated P zero begun more = begun
repeated P (suc n) begun more = subst P (add-one n) (more n (omega arith) (repeated P n begun (λ k h. more k (omega arith))))

-- `still` is true only while every place before i has the property
pub record Swept (P : ℕ → Type 0) (from to i : ℕ) (still : Bool) : Type 0 where
  pub begun : from ≤ i
  pub passed : i ≤ to
  pub done : still ≡ true → Between from i P

pub swept_none : (P : ℕ → Type 0) (from to : ℕ) → from ≤ to → Swept P from to from true
swept_none P from to h = record { begun = omega arith; passed = h; done = λ e i a b. absurd (omega arith) }

module _ (P : ℕ → Type 0) (from to i : ℕ) (still : Bool) (s : Swept P from to i still) where
  pub swept_more : i < to → (next : Bool) → (next ≡ true → (still ≡ true) × P i) → Swept P from to (i + 1) next
  swept_more h next test =
      record {
        begun = omega arith;
        passed = omega arith;
        done = λ e k a b. below_more (λ m. from ≤ m → P m) i (λ m l g. s.done (test e).0 m g l) (λ g. (test e).1) k b a;
      }

  pub swept_end : to ≤ i → still ≡ true → Between from to P
  swept_end h e k a b = s.done e k a (omega arith)
