-- `finish` meets its contract. The invariant: the turns that are left lead to where all of them lead. Each is accepted and
-- counted, so that fewer are left.
use mathlib.Core.Path.{◌≡◌}
use lib.ListN.{length}
use Rattle.accepted.specs.Holding.{tables_in}
use Rattle.searches.proofs.Finishing.{Finishing, left_at}
use Rattle.searches.proofs.finish.finish.Given as goal

abbrev pub invariant-loop-p : goal.invariant-loop-p
invariant-loop-p l =
    (length l.strands ≡ length l.initial.strands)
    × Finishing (tables_in l.tables) (record { session = l.initial.next; strands = l.initial.strands }) (record { session = l.next; strands = l.strands }) l.p

abbrev pub decreases-loop-p : goal.decreases-loop-p
decreases-loop-p l = left_at (tables_in l.tables) l.next
