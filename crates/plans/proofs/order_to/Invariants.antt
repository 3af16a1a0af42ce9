-- `order_to` meets its contract. The invariant: so many numbers are those that go before the line checkpoint, and after it.
use Prim.Native.Nat.{◌-◌}
use lib.ListN.{get_or}
use Rattle.lists.specs.Pick.{pick}
use Rattle.lists.proofs.Filling.{Filled}
use Rattle.consistency.specs.Set.{chosen}
use Rattle.restart.specs.Plan.{restarts}
use Rattle.plans.proofs.order_to.Given as goal

abbrev pub invariant-loop-j : goal.invariant-loop-j
invariant-loop-j l =
    Filled 0 l.initial.before l.n (λ i. chosen l.line i - 1) l.before l.j
    × Filled 0 l.initial.after l.n (λ i. pick (restarts l.purpose) (get_or l.counts i 0 - chosen l.line i) 0) l.after l.j
