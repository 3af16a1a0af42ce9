-- `newest_set` meets its contract. The invariant: the numbers so far are the counts.
use lib.ListN.{get_or}
use Rattle.lists.proofs.Filling.{Filled}
use Rattle.book.proofs.Values.{checkpoint}
use Rattle.finder.proofs.newest_set.Given as goal

abbrev pub invariant-loop-j : goal.invariant-loop-j
invariant-loop-j l = Filled (checkpoint 0) l.initial.set 16 (λ i. checkpoint (get_or l.counts i 0)) l.set l.j
