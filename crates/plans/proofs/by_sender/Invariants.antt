-- `by_sender` meets its contract. The invariant: so many entries, row after row, are those of the columns.
use Prim.Native.Nat.{◌*◌, ◌/◌, ◌%◌}
use Rattle.lists.proofs.Filling.{Filled}
use Rattle.book.proofs.Values.{tally}
use Rattle.matrix.specs.Matrix.{entry}
use Rattle.plans.proofs.by_sender.Given as goal

abbrev pub invariant-loop-i : goal.invariant-loop-i
invariant-loop-i l = Filled (tally 0) l.initial.sent (l.n * 16) (λ k. tally (entry l.received (k % 16) (k / 16))) l.sent l.i
