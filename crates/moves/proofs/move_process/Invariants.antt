-- `move_process` meets its contract. The invariant: the rows so far stand at their new place.
use Rattle.moves.proofs.ProcessTurns.{ProcessMoved}
use Rattle.moves.proofs.move_process.Given as goal

abbrev pub invariant-loop-k : goal.invariant-loop-k
invariant-loop-k l = ProcessMoved l.initial.table l.from l.to l.kept l.off l.table l.k
