-- `oldest_set` meets its contract. The invariant: so many processes have checkpoint 1.
use Rattle.lists.proofs.Filling.{Filled}
use Rattle.book.proofs.Values.{checkpoint}
use Rattle.plans.proofs.oldest_set.Given as goal

abbrev pub invariant-loop-j : goal.invariant-loop-j
invariant-loop-j l = Filled (checkpoint 0) l.initial.set l.n (λ _. checkpoint 1) l.set l.j
