-- What is found under a test, and what that says of the test.
use Rattle.std.specs.Prelude.{Option, Some, None}
use mathlib.Core.Path.{◌≡◌, refl, sym, ◌∙◌}
use mathlib.Core.Bool.{Bool, true, false, true≢false}
use Rattle.lists.specs.Pick.{pick}

module _ {A : Type 0} where
  none_is : {v : A} → None ≡ Some v → ⊥
  none_is e = let z : true ≡ false = cc in absurd (true≢false z)

  module _ (t : Bool) (v : A) {r : Option A} (found : r ≡ pick t (Some v) None) where
    pub found_none : r ≡ None → t ≡ false
    found_none e = go t (sym e ∙ found)
      where
        go : (t : Bool) → None ≡ pick t (Some v) None → t ≡ false
        go true f = absurd (none_is f)
        go false f = refl

    pub found_some : {w : A} → r ≡ Some w → (t ≡ true) × (w ≡ v)
    found_some {w} e = go t (sym e ∙ found)
      where
        go : (t : Bool) → Some w ≡ pick t (Some v) None → (t ≡ true) × (w ≡ v)
        go true f = (refl, cc)
        go false f = absurd (none_is (sym f))

  -- the other way round
  pub finds : {t : Bool} {v w : A} → t ≡ true → w ≡ v → Some w ≡ pick t (Some v) None
  finds e is = rw (e, is)

  pub finds_none : {t : Bool} (v : A) → t ≡ false → None ≡ pick t (Some v) None
  finds_none v e = rw e
