-- `put_pairs` meets its contract. The invariant: the bytes of the processes so far are written.
use Rattle.consistency.specs.Known.{counters}
use Rattle.mail.proofs.Turns.{Put}
use Rattle.mail.proofs.Pairs.{pair_bytes}
use Rattle.mail.proofs.put_pairs.Given as goal

abbrev pub invariant-loop-p : goal.invariant-loop-p
invariant-loop-p l = Put (pair_bytes (counters l.news)) l.initial.out l.at l.p l.out l.next
