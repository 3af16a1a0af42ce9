-- `rows_at` meets its contract. The invariant: the rows so far are those of the checkpoints.
use Prim.Native.Nat.{◌+◌, ◌-◌}
use lib.ListN.{get_or}
use Rattle.consistency.specs.Set.{chosen}
use Rattle.lists.proofs.Filling.{Filled}
use Rattle.finder.proofs.rows_at.Given as goal

abbrev pub invariant-loop-j : goal.invariant-loop-j
invariant-loop-j l =
    Filled 0 l.initial.at l.n (λ i. get_or l.first i 0 + (chosen l.set i - 1)) l.at l.j
