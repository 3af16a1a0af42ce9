-- `entry_count` meets its contract. The invariant: the count so far.
use Rattle.consistency.specs.Known.{counters}
use Rattle.resend_writer.proofs.Counts.{Counted}
use Rattle.resend_writer.proofs.entry_count.Given as goal

abbrev pub invariant-loop-i : goal.invariant-loop-i
invariant-loop-i l = Counted (counters l.firsts) l.i l.count
