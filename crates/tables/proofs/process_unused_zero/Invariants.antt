-- `tables::process_unused_zero` meets its contract: what is unused in the rows before r is zero.
use Prim.Native.Nat.{◌*◌}
use lib.ListN.{drop}
use Rattle.book.specs.Questions.{all_zero, unused_of}
use Rattle.tables.proofs.UnusedLoop.{Clear}
use Rattle.tables.proofs.process_unused_zero.Given as goal

abbrev pub invariant-loop-r : goal.invariant-loop-r
invariant-loop-r l = Clear (all_zero (unused_of l.n l.j l.count (drop (l.first * 16) l.table))) l.n l.j l.first l.count l.table l.r
