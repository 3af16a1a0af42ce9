-- `tables::row_question` meets its contract: the counters before the k-th pass.
use lib.ListN.{drop}
use Rattle.book.specs.Bounds.{mark}
use Rattle.book.specs.Tables.{others}
use Rattle.book.specs.Along.{counters_question}
use Rattle.book.specs.Before.{counters_before}
use Rattle.tables.proofs.RowLoop.{Asked}
use Rattle.tables.proofs.row_question.Given as goal

abbrev pub invariant-loop-k : goal.invariant-loop-k
invariant-loop-k l =
    Asked (counters_question mark l.zeros (counters_before l.oldest l.n l.j l.start l.table) (others l.n l.j (drop l.start l.table))) mark l.oldest l.zeros l.table l.start l.n l.j l.k
