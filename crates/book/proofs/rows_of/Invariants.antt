-- `book::rows_of` meets its contract. The invariant: the first rows so far, and the start carried to the next process.
use Rattle.book.proofs.Starts.{StartsFound}
use Rattle.book.proofs.rows_of.Given as goal

abbrev pub invariant-loop-j : goal.invariant-loop-j
invariant-loop-j l = StartsFound l.initial.first l.counts l.first l.row l.j
