-- `newer` meets its contract. The invariant: what was added up so far.
use Rattle.searches.proofs.Sets.{Added}
use Rattle.searches.proofs.finish.newer.Given as goal

abbrev pub invariant-loop-j : goal.invariant-loop-j
invariant-loop-j l = Added l.fn.shape l.set l.sum l.j
