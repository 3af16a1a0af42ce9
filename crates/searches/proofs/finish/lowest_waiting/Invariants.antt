-- `lowest_waiting` meets its contract. The invariant: nothing waits on the strands so far.
use Rattle.searches.proofs.Lowest.{NoneYet}
use Rattle.searches.proofs.finish.lowest_waiting.Given as goal

abbrev pub invariant-loop-k : goal.invariant-loop-k
invariant-loop-k l = NoneYet l.lengths l.k
