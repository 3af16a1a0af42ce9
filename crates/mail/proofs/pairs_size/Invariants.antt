-- `pairs_size` meets its contract. The invariant: the bytes of the processes so far are measured.
use Rattle.consistency.specs.Known.{counters}
use Rattle.mail.specs.Sizes.{pair_most}
use Rattle.mail.proofs.Turns.{Measured}
use Rattle.mail.proofs.Pairs.{pair_bytes}
use Rattle.mail.proofs.pairs_size.Given as goal

abbrev pub invariant-loop-p : goal.invariant-loop-p
invariant-loop-p l = Measured pair_most (pair_bytes (counters l.news)) l.p l.size
