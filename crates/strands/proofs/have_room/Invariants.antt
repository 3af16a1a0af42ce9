-- `have_room` meets its contract. The invariant: the messages so far have room.
use mathlib.Core.Path.{◌≡◌}
use mathlib.Core.Bool.{true}
use lib.ListN.{length}
use Rattle.lists.proofs.Before.{Before}
use Rattle.strands.proofs.Slots.{room_for}
use Rattle.strands.proofs.have_room.Given as goal

abbrev pub invariant-loop-k : goal.invariant-loop-k
invariant-loop-k l =
    Before 16 (λ p. room_for l.n l.initiator l.outgoing (length l.strands) p ≡ true) l.k
