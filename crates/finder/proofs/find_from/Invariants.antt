-- `find_from` meets its contract. The invariant: from any set that lay in the first rows, the search has come to the present
-- ones.
use mathlib.Core.List.{List}
use Prim.Native.Nat.{◌-◌}
use Rattle.book.specs.declared.Checkpoint.{Checkpoint}
use Rattle.consistency.specs.Set.{chosen}
use Rattle.consistency.specs.Given.{AllNamed}
use Rattle.finder.specs.Steps.{SameSet, set_at}
use Rattle.finder.proofs.StepsBack.{FoundSoFar}
use Rattle.finder.proofs.find_from.Given as goal

abbrev pub invariant-loop-j : goal.invariant-loop-j
invariant-loop-j l =
    let shape = l.tables.rows.shape in
    (start : List Checkpoint) → AllNamed shape start → SameSet shape.n (set_at shape.counts l.initial.at) (chosen start)
    → FoundSoFar l.tables.rows l.tables.sent.now l.tables.received.now start l.at l.flags l.passed l.j

abbrev pub decreases-loop-j : goal.decreases-loop-j
decreases-loop-j l = 256 - l.passed
