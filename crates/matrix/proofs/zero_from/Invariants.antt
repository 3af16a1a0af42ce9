-- `zero_from` meets its contract. The invariant: the entries so far are zero.
use Rattle.matrix.proofs.Zeros.{Zeros}
use Rattle.matrix.proofs.zero_from.Given as goal

abbrev pub invariant-loop-p : goal.invariant-loop-p
invariant-loop-p l = Zeros l.from l.a l.p
