-- `kept_from` meets its contract. The invariant: so many numbers are those kept.
use Prim.Native.Nat.{◌-◌}
use lib.ListN.{get_or}
use Rattle.lists.specs.Pick.{pick}
use Rattle.lists.proofs.Filling.{Filled}
use Rattle.consistency.specs.Set.{chosen}
use Rattle.restart.specs.Plan.{restarts}
use Rattle.plans.proofs.kept_from.Given as goal

abbrev pub invariant-loop-j : goal.invariant-loop-j
invariant-loop-j l =
    Filled 0 l.initial.kept l.n (λ i. pick (restarts l.purpose) 1 (get_or l.counts i 0 - (chosen l.line i - 1))) l.kept l.j
