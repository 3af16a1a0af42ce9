-- A flag as a word.
use mathlib.Core.Path.{◌≡◌, refl}
use mathlib.Core.Bool.{Bool, true, false}
use mir.Val.{bool_byte}
use Rattle.words.specs.Initiator.{flag_word}

-- what `as` makes of it
pub flag_byte : (flag : Bool) → bool_byte flag ≡ flag_word flag
flag_byte true = refl
flag_byte false = refl
