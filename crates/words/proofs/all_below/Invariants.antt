-- `all_below` meets its contract. The invariant: the words so far are below the bound.
use mathlib.Core.Path.{◌≡◌}
use mathlib.Core.Bool.{true}
use Prim.Native.Nat.{◌+◌}
use lib.Dec.{ltb}
use Rattle.lists.proofs.Before.{Before}
use Rattle.words.specs.Words.{word}
use Rattle.words.proofs.all_below.Given as goal

abbrev pub invariant-loop-i : goal.invariant-loop-i
invariant-loop-i l = Before l.k (λ j. ltb (word l.words (l.at + j)) l.bound ≡ true) l.i
