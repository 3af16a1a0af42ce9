-- `reader::take_processes` meets its contract. The invariant: the counts so far stand first, the rows so far in both tables,
-- and what is left to ask is asked of the numbers that follow.
use Rattle.reader.proofs.ProcessesTurns.{Met}
use Rattle.reader.proofs.take_processes.Given as goal

abbrev pub invariant-loop-j : goal.invariant-loop-j
invariant-loop-j l = Met l.n l.s l.at l.sent l.received l.counts l.sum l.next l.j
