-- `reader::take_checkpoints` meets its contract. The invariant: the rows so far stand in both tables.
use Rattle.reader.proofs.CheckpointLoop.{Passed}
use Rattle.reader.proofs.take_checkpoints.Given as goal

abbrev pub invariant-loop-r : goal.invariant-loop-r
invariant-loop-r l = Passed l.n l.j l.first l.count l.s l.at l.initial.sent l.initial.received l.sent l.received l.next l.r
