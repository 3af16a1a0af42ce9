-- `tables::all_zero` meets its contract: `clear` is the answer for the entries before i.
use lib.ListN.{take, drop}
use Rattle.book.specs.Questions.{all_zero}
use Rattle.tables.proofs.Zeros.{Clearing}
use Rattle.tables.proofs.all_zero.Given as goal

abbrev pub invariant-loop-i : goal.invariant-loop-i
invariant-loop-i l = Clearing (all_zero (drop l.from (take l.to l.table))) l.table l.to l.i l.clear
