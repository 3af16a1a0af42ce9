-- `take_turns` meets its contract. The invariant: the rest of the list leads to where the whole list leads.
use mathlib.Core.Path.{◌≡◌}
use lib.ListN.{length}
use Rattle.book.specs.Lent.{lent}
use Rattle.searches.proofs.Running.{Taken}
use Rattle.searches.proofs.take_turns.Given as goal

abbrev pub invariant-loop-i : goal.invariant-loop-i
invariant-loop-i l =
    (length l.strands ≡ length l.initial.strands)
    × Taken (lent l.shape l.sent l.received) (record { session = l.initial.next; strands = l.initial.strands }) (record { session = l.next; strands = l.strands }) l.list l.i
