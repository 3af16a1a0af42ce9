-- `all_none_above` meets its contract. The invariant: `below` is the answer for the entries before i.
use Rattle.matrix.proofs.Sweep.{Below}
use Rattle.matrix.proofs.whole.all_none_above.Given as goal

abbrev pub invariant-loop-i : goal.invariant-loop-i
invariant-loop-i l = Below l.matrix l.copy l.below l.i
