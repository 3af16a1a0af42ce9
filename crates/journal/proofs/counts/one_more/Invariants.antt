-- `one_more` meets its contract. The invariant: the counts so far have been added to.
use Prim.Native.Nat.{◌+◌}
use lib.ListN.{get_or}
use lib.Dec.{eqb}
use Rattle.lists.specs.Pick.{pick}
use Rattle.lists.proofs.Filling.{Filled}
use Rattle.book.specs.Bounds.{most_processes}
use Rattle.journal.proofs.counts.one_more.Given as goal

abbrev pub invariant-loop-q : goal.invariant-loop-q
invariant-loop-q l = Filled 0 l.counts most_processes (λ i. get_or l.counts i 0 + pick (eqb i l.p) 1 0) l.next l.q
