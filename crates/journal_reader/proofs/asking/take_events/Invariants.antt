-- `take_events` meets its contract. The invariant: what is kept after the events so far, and what is left to ask is asked of those
-- that follow.
use Prim.Native.Nat.{◌-◌}
use lib.ListN.{length}
use Rattle.journal_reader.proofs.AskingLoop.{Sofar}
use Rattle.journal_reader.proofs.asking.take_events.Given as goal

abbrev pub invariant-loop-next : goal.invariant-loop-next
invariant-loop-next l = Sofar l.n l.s l.at l.underway l.counts l.total l.next

abbrev pub decreases-loop-next : goal.decreases-loop-next
decreases-loop-next l = length l.s - l.next
