-- `tables::rows_question` meets its contract: the processes before j pass, and the rows of process j begin at `first`.
use lib.ListN.{take}
use Rattle.book.specs.Bounds.{mark}
use Rattle.book.specs.Tables.{processes_of}
use Rattle.book.specs.Check.{rows_question}
use Rattle.tables.proofs.BookLoop.{Walked}
use Rattle.tables.proofs.rows_question.Given as goal

abbrev pub invariant-loop-j : goal.invariant-loop-j
invariant-loop-j l = Walked (rows_question mark l.n (processes_of l.n 0 (take l.n l.counts) l.sent l.received)) mark l.n l.counts l.sent l.received l.first l.j
