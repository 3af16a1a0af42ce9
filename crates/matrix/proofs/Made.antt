-- An array made place by place by a closure that no call changes is the table of what a call gives.
use mathlib.Core.Path.{◌≡◌, refl, subst, ◌∙◌}
use mathlib.Core.List.{List}
use Prim.Native.Nat.{ℕ, zero, suc, ◌+◌, ◌<◌}
use native.Mathlib.Omega.{arith}
use denote.Param.Members.{Mut, Called}
use lib.ListN.{get_or}
use Rattle.std.specs.Array.{IsFromFnResultFrom, IsFromFnResult}
use Rattle.lists.specs.Over.{tab}
use Rattle.lists.proofs.Over.{tab_is}

module _ {F B : Type 0} (g : Mut F (ℕ × Unit {0}) B) (h : ℕ → B) (d : B) (f : F)
    (one : (i : ℕ) (y : B) (q : F) → Called g f (i, tt) y q → (y ≡ h i) × (q ≡ f)) where
  made_from : (ys : List B) (n i : ℕ) (p : F) → p ≡ f → IsFromFnResultFrom g p ys i n
      → (k : ℕ) → k < n → get_or ys (i + k) d ≡ h (i + k)
  made_from ys zero i p e made k m = absurd (omega arith)
  made_from ys (suc n) i p e made k m =
      let first = one i made.1 made.0 (subst (λ (y : F). Called g y (i, tt) made.1 made.0) e made.3) in
      go k m (made_from ys n (i + 1) made.0 first.1 made.4) (made.2.1 d ∙ first.0)
    where
      go : (k : ℕ) → k < suc n → ((k : ℕ) → k < n → get_or ys (i + 1 + k) d ≡ h (i + 1 + k)) → get_or ys i d ≡ h i
          → get_or ys (i + k) d ≡ h (i + k)
      go zero m later here = let e : i + 0 ≡ i = omega arith in rw e here
      go (suc k) m later here = let e : i + suc k ≡ i + 1 + k = omega arith in rw e (later k (omega arith))

  pub made_is : (ys : List B) (n : ℕ) → IsFromFnResult g f ys n → ys ≡ tab n h
  made_is ys n made = tab_is d n h ys made.long (λ i m.
      let e : 0 + i ≡ i = omega arith in
      rw e at (made_from ys n 0 f refl made.each i m))
