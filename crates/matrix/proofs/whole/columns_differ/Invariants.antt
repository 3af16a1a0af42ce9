-- `columns_differ` meets its contract. The invariant: the flags are the answer for the entries before i.
use Rattle.matrix.proofs.Sweep.{Differ}
use Rattle.matrix.proofs.whole.columns_differ.Given as goal

abbrev pub invariant-loop-i : goal.invariant-loop-i
invariant-loop-i l = Differ l.matrix l.copy l.differ l.i
