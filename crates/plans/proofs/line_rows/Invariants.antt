-- `line_rows` meets its contract. The invariant: so many entries, row after row, are those of the line checkpoints.
use Prim.Native.Nat.{◌*◌, ◌/◌, ◌%◌}
use lib.ListN.{get_or}
use Rattle.lists.proofs.Filling.{Filled}
use Rattle.book.specs.View.{counter_from}
use Rattle.book.proofs.Values.{tally}
use Rattle.consistency.specs.Set.{chosen}
use Rattle.plans.proofs.line_rows.Given as goal

abbrev pub invariant-loop-i : goal.invariant-loop-i
invariant-loop-i l =
    Filled (tally 0) l.initial.held (l.n * 16) (λ k. tally (counter_from l.table (get_or l.first (k / 16) 0) (chosen l.line (k / 16)) (k % 16))) l.held l.i
