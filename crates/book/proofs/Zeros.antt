-- Lists of zeros, number by number.
use mathlib.Core.Path.{◌≡◌, refl}
use mathlib.Core.Bool.{true}
use mathlib.Core.List.{List, [], ◌∷◌}
use Prim.Native.Nat.{ℕ, zero, suc, ◌<◌}
use native.Mathlib.Omega.{arith}
use borrow.Author.Tests.{eqb-true, eq-eqb}
use lib.ListN.{length, get_or}
use lib.Dec.{eqb}
use Rattle.lists.proofs.Tests.{and_both, both_and}
use Rattle.book.specs.Questions.{all_zero}

pub zero_at : (l : List ℕ) → all_zero l ≡ true → (i : ℕ) → get_or l i 0 ≡ 0
unfolding all_zero
zero_at [] h i = refl
zero_at (v ∷ l) h zero = eqb-true v 0 (and_both (eqb v 0) (all_zero l) h).0
zero_at (v ∷ l) h (suc i) = zero_at l (and_both (eqb v 0) (all_zero l) h).1 i

pub zero_each : (l : List ℕ) → ((i : ℕ) → i < length l → get_or l i 0 ≡ 0) → all_zero l ≡ true
unfolding all_zero
zero_each [] h = refl
zero_each (v ∷ l) h =
    both_and (eqb v 0) (all_zero l) (eq-eqb v 0 (h 0 (omega arith))) (zero_each l (λ i m. h (suc i) (omega arith)))
