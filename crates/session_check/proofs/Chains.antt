-- Three tests in a row, and four.
use mathlib.Core.Path.{◌≡◌, sym, ◌∙◌}
use mathlib.Core.Bool.{Bool, true, false, ◌&&◌, and-true, and-false}

module _ (a b c : Bool) where
  pub first_of_three : a ≡ false → false ≡ (a && (b && c))
  first_of_three h = rw h

  pub second_of_three : a ≡ true → b ≡ false → false ≡ (a && (b && c))
  second_of_three h k = rw (h, k)

  pub third_of_three : {r : Bool} → a ≡ true → b ≡ true → r ≡ c → r ≡ (a && (b && c))
  third_of_three h k e = rw (h, k) e

module _ (a b c d : Bool) where
  pub first_of_four : a ≡ false → false ≡ (a && (b && (c && d)))
  first_of_four h = rw h

  pub second_of_four : a ≡ true → b ≡ false → false ≡ (a && (b && (c && d)))
  second_of_four h k = rw (h, k)

  pub third_of_four : a ≡ true → b ≡ true → c ≡ false → false ≡ (a && (b && (c && d)))
  third_of_four h k l = rw (h, k, l)

  pub fourth_of_four : {r : Bool} → a ≡ true → b ≡ true → c ≡ true → r ≡ d → r ≡ (a && (b && (c && d)))
  fourth_of_four h k l e = rw (h, k, l) e

  -- the last fails, whatever the third says
  pub last_of_four : a ≡ true → b ≡ true → d ≡ false → false ≡ (a && (b && (c && d)))
  last_of_four h k l = rw (h, k, l) (sym (and-false c))

  -- the last passes, and the third decides
  pub but_last_of_four : {r : Bool} → a ≡ true → b ≡ true → d ≡ true → r ≡ c → r ≡ (a && (b && (c && d)))
  but_last_of_four h k l e = rw (h, k, l) (e ∙ sym (and-true c))
