-- `tables::process_question` meets its contract: the rows before r pass.
use Prim.Native.Nat.{◌*◌}
use lib.ListN.{drop}
use Rattle.book.specs.Bounds.{mark}
use Rattle.book.specs.Tables.{checkpoints_of}
use Rattle.book.specs.Layout.{joined}
use Rattle.book.specs.Along.{process_question}
use Rattle.tables.proofs.ProcessLoop.{Climbed}
use Rattle.tables.proofs.process_question.Given as goal

abbrev pub invariant-loop-r : goal.invariant-loop-r
invariant-loop-r l =
    Climbed (process_question mark l.n l.count (joined (checkpoints_of l.n l.j l.count (drop (l.first * 16) l.sent) (drop (l.first * 16) l.received))))
    mark l.n l.j l.first l.count l.sent l.received l.r
