-- `reader::take_each_counter` meets its contract. The invariant: the counters passed stand in their columns.
use Rattle.reader.proofs.CounterLoop.{Sofar}
use Rattle.reader.proofs.take_each_counter.Given as goal

abbrev pub invariant-loop-k : goal.invariant-loop-k
invariant-loop-k l = Sofar l.oldest l.zeros l.n l.j l.start l.initial.table l.s l.at l.next l.k l.table
