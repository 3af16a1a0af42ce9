-- Sums of the counts of checkpoints.
use mathlib.Core.Path.{◌≡◌, refl, sym}
use mathlib.Core.List.{List, [], ◌∷◌}
use Prim.Native.Nat.{ℕ, zero, suc, ◌+◌, ◌-◌, ◌≤◌, ◌<◌}
use native.Mathlib.Omega.{arith}
use lib.ListN.{take, get_or}
use Rattle.lists.specs.Over.{sum_to}
use Rattle.book.specs.View.{sum}

-- one more count
pub sum_more : (l : List ℕ) (i : ℕ) → sum (take (suc i) l) ≡ sum (take i l) + get_or l i 0
unfolding sum
sum_more [] zero = refl
sum_more [] (suc i) = refl
sum_more (x ∷ l) zero = omega arith
sum_more (x ∷ l) (suc i) = let ih = sum_more l i in omega arith

-- the first counts, added up as a function's
pub sum_of : (l : List ℕ) (n : ℕ) → sum_to n (λ j. get_or l j 0) ≡ sum (take n l)
unfolding sum_to sum
sum_of l zero = refl
sum_of l (suc n) = rw (sum_of l n) (sym (sum_more l n))

-- the first counts add up to no more than all of them
pub sum_take : (l : List ℕ) (i : ℕ) → sum (take i l) ≤ sum l
unfolding sum
sum_take [] zero = omega arith
sum_take [] (suc i) = omega arith
sum_take (x ∷ l) zero = omega arith
sum_take (x ∷ l) (suc i) = let ih = sum_take l i in omega arith

-- the row of checkpoint r of process j is one of all the rows
pub row_within : (counts : List ℕ) (j r most : ℕ) → sum counts ≤ most → 1 ≤ r → r ≤ get_or counts j 0 → sum (take j counts) + (r - 1) < most
row_within counts j r most h k l = omega (arith, sum_more counts j, sum_take counts (suc j))
