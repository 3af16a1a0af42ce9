-- `tables::counts_question` meets its contract: the counts before j pass, and the sum is theirs.
use lib.ListN.{take}
use Rattle.book.specs.Check.{counts_question}
use Rattle.tables.proofs.CountLoop.{Counted}
use Rattle.tables.proofs.counts_question.Given as goal

abbrev pub invariant-loop-j : goal.invariant-loop-j
invariant-loop-j l = Counted (counts_question 0 (take l.n l.counts)) l.counts l.n l.sum l.j
