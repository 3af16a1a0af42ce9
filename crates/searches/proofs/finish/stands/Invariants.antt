-- `stands` meets its contract. The invariant: the set has the checkpoints of the workers so far.
use Rattle.lists.proofs.Filling.{Filled}
use Rattle.book.proofs.Values.{checkpoint}
use Rattle.searches.proofs.Sets.{stands_by}
use Rattle.searches.proofs.finish.stands.Given as goal

abbrev pub invariant-loop-j : goal.invariant-loop-j
invariant-loop-j l =
    Filled (checkpoint 0) l.initial.set 16 (λ i. checkpoint (stands_by l.participants l.machine l.own i)) l.set l.j
