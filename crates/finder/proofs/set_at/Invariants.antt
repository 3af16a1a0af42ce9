-- `set_at` meets its contract. The invariant: the checkpoints so far are those that lie in the rows, the others zero.
use Prim.Native.Nat.{◌+◌, ◌-◌}
use lib.ListN.{get_or}
use Rattle.lists.proofs.Filling.{Filled}
use Rattle.book.proofs.Values.{checkpoint}
use Rattle.finder.specs.Steps.{row_of}
use Rattle.finder.proofs.set_at.Given as goal

abbrev pub invariant-loop-j : goal.invariant-loop-j
invariant-loop-j l =
    Filled (checkpoint 0) l.initial.set l.n (λ i. checkpoint (row_of l.at i - get_or l.first i 0 + 1)) l.set l.j
