-- A value chosen by a test.
use mathlib.Core.Path.{◌≡◌, refl}
use mathlib.Core.Bool.{Bool, true, false}
use Rattle.lists.specs.Pick.{pick}

module _ {A : Type 0} (t : Bool) (a b : A) where
  pub pick_yes : t ≡ true → a ≡ pick t a b
  pick_yes h = rw h

  pub pick_no : t ≡ false → b ≡ pick t a b
  pick_no h = rw h

-- what holds of both
pub pick_each : {A : Type 0} (P : A → Type 0) (t : Bool) (a b : A) → P a → P b → P (pick t a b)
pick_each P true a b h k = h
pick_each P false a b h k = k

-- what is computed from it
pub pick_field : {A B : Type 0} (g : A → B) (t : Bool) (a b : A) → g (pick t a b) ≡ pick t (g a) (g b)
pick_field g true a b = refl
pick_field g false a b = refl
