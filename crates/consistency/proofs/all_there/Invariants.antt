-- `all_there` meets its contract. The invariant: every checkpoint so far is there.
use mathlib.Core.Path.{◌≡◌}
use mathlib.Core.Bool.{true}
use lib.ListN.{get_or}
use lib.Dec.{ltb}
use Rattle.lists.proofs.Before.{Before}
use Rattle.consistency.specs.Set.{chosen, is_there}
use Rattle.consistency.proofs.all_there.Given as goal

abbrev pub invariant-loop-j : goal.invariant-loop-j
invariant-loop-j l = Before 16 (λ i. is_there (ltb i l.n) (get_or l.counts i 0) (chosen l.set i) ≡ true) l.j
