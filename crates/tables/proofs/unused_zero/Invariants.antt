-- `tables::unused_zero` meets its contract: what is unused before process j is zero, and its rows begin at `first`.
use lib.ListN.{take}
use Rattle.book.specs.Questions.{all_zero, unused_from}
use Rattle.tables.proofs.UnusedLoop.{Cleared}
use Rattle.tables.proofs.unused_zero.Given as goal

abbrev pub invariant-loop-j : goal.invariant-loop-j
invariant-loop-j l = Cleared (all_zero (unused_from l.n 0 (take l.n l.counts) l.table)) l.n l.counts l.table l.first l.j
