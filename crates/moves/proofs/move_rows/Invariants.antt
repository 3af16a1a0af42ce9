-- `move_rows` meets its contract. The invariant: the kept rows so far stand at the start of the table, and take no more room than
-- the processes so far had.
use Rattle.moves.proofs.AllTurns.{AllMoved}
use Rattle.moves.proofs.move_rows.Given as goal

abbrev pub invariant-loop-j : goal.invariant-loop-j
invariant-loop-j l = AllMoved l.initial.table l.off l.line l.kept l.n l.first l.table l.to l.j
