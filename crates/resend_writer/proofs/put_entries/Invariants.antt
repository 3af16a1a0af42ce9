-- `put_entries` meets its contract. The invariant: the entries of the channels so far are written.
use Rattle.consistency.specs.Known.{counters}
use Rattle.resend_writer.proofs.Turns.{PutTo}
use Rattle.resend_writer.proofs.put_entries.Given as goal

abbrev pub invariant-loop-i : goal.invariant-loop-i
invariant-loop-i l = PutTo (counters l.firsts) (counters l.lasts) l.initial.out l.at l.i l.out l.next
