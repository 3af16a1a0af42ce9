-- `tables::absent_zero` meets its contract: the counts before j are zero.
use lib.ListN.{drop}
use Rattle.book.specs.Questions.{all_zero}
use Rattle.tables.proofs.Zeros.{Zeros}
use Rattle.tables.proofs.absent_zero.Given as goal

abbrev pub invariant-loop-j : goal.invariant-loop-j
invariant-loop-j l = Zeros (all_zero (drop l.initial.j l.counts)) l.counts 16 l.j
