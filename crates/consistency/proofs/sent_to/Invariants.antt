-- `sent_to` meets its contract. The invariant: the counters so far are those of the set's checkpoints.
use Prim.Native.Nat.{◌-◌}
use lib.ListN.{get_or}
use Rattle.book.specs.View.{counter_from}
use Rattle.book.proofs.Values.{tally}
use Rattle.consistency.specs.Set.{chosen}
use Rattle.lists.proofs.Filling.{Filled}
use Rattle.consistency.proofs.sent_to.Given as goal

abbrev pub invariant-loop-p : goal.invariant-loop-p
invariant-loop-p l =
    Filled (tally 0) l.initial.known l.n (λ q. tally (counter_from l.sent (get_or l.first q 0) (chosen l.set q) (l.j.0 - 1))) l.known l.p
