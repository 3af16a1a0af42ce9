-- `put_events` meets its contract. The invariant: after the events so far the rows of the checkpoints made stand at their places.
use Prim.Native.Nat.{◌-◌}
use lib.ListN.{length}
use Rattle.journal.specs.Calls.{leading_n, events_logged}
use Rattle.journal_reader.proofs.FillTurns.{Filling}
use Rattle.journal_reader.proofs.filling.put_events.Given as goal

abbrev pub invariant-loop-next : goal.invariant-loop-next
invariant-loop-next l = Filling (leading_n l.s) (events_logged l.s) l.s l.sent l.received l.all l.next

abbrev pub decreases-loop-next : goal.decreases-loop-next
decreases-loop-next l = length l.s - l.next
