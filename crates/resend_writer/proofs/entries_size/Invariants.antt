-- `entries_size` meets its contract. The invariant: the entries of the channels so far are measured.
use Rattle.consistency.specs.Known.{counters}
use Rattle.resend_writer.proofs.Turns.{Measured}
use Rattle.resend_writer.proofs.entries_size.Given as goal

abbrev pub invariant-loop-i : goal.invariant-loop-i
invariant-loop-i l = Measured (counters l.firsts) (counters l.lasts) l.i l.size
