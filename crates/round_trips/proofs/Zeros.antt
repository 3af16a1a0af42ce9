-- Lists of zeros, and lists filled up with zeros to a length.
use mathlib.Core.Path.{◌≡◌, refl, ap, ◌∙◌}
use mathlib.Core.Bool.{true}
use mathlib.Core.List.{List, [], ◌∷◌, ◌++◌}
use Prim.Native.Nat.{ℕ, zero, suc, ◌-◌, ◌≤◌}
use native.Mathlib.Omega.{arith}
use borrow.Author.Tests.{eqb-true}
use lib.ListN.{length, take, drop, replicate, length-append, length-drop, length-replicate, take-append-drop}
use lib.Dec.{eqb}
use lib.Seq.{length-take-le}
use Rattle.book.specs.Tables.{padded}
use Rattle.book.specs.Questions.{all_zero}
use Rattle.lists.proofs.Tests.{and_both, both_and}

pub zeros : (k : ℕ) → all_zero (replicate k 0) ≡ true
unfolding all_zero
zeros zero = refl
zeros (suc k) = zeros k

pub zero_cons : (v : ℕ) (l : List ℕ) → all_zero (v ∷ l) ≡ true → (eqb v 0 ≡ true) × (all_zero l ≡ true)
unfolding all_zero
zero_cons v l h = and_both (eqb v 0) (all_zero l) h

pub cons_zero : (v : ℕ) (l : List ℕ) → eqb v 0 ≡ true → all_zero l ≡ true → all_zero (v ∷ l) ≡ true
unfolding all_zero
cons_zero v l h k = both_and (eqb v 0) (all_zero l) h k

-- a list of zeros is its length in zeros
pub all_zeros : (l : List ℕ) → all_zero l ≡ true → l ≡ replicate (length l) 0
all_zeros [] h = refl
all_zeros (v ∷ l) h =
    let b = zero_cons v l h in
    rw (eqb-true v 0 b.0) (ap {B = List ℕ} (λ r. 0 ∷ r) (all_zeros l b.1))

pub zeros_append : (a b : List ℕ) → all_zero a ≡ true → all_zero b ≡ true → all_zero (a ++ b) ≡ true
zeros_append [] b h k = k
zeros_append (v ∷ a) b h k = let e = zero_cons v a h in cons_zero v (a ++ b) e.0 (zeros_append a b e.1 k)

pub append_zeros : (a b : List ℕ) → all_zero (a ++ b) ≡ true → (all_zero a ≡ true) × (all_zero b ≡ true)
unfolding all_zero
append_zeros [] b h = (refl, h)
append_zeros (v ∷ a) b h =
    let e = zero_cons v (a ++ b) h in
    let r = append_zeros a b e.1 in
    (cons_zero v a e.0 r.0, r.1)

pub length_padded : (long : ℕ) (l : List ℕ) → length l ≤ long → length (padded long l) ≡ long
length_padded long l h = simp (length-append, length-replicate) (omega arith)

-- a list of which the rest is zero is its first part, filled up
pub padded_take : (k long : ℕ) (l : List ℕ) → length l ≡ long → k ≤ long → all_zero (drop k l) ≡ true → padded long (take k l) ≡ l
padded_take k long l h m z =
    let rest : drop k l ≡ replicate (long - k) 0 = all_zeros (drop k l) z ∙ simp (length-drop, h) in
    rw (length-take-le k l (rw h m), ← rest) (take-append-drop k l)
