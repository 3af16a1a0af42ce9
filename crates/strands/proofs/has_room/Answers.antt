-- `has_room` meets its contract.
use mathlib.Core.Path.{sym}
use Rattle.strands.proofs.Slots.{room_none, room_some}
use Rattle.strands.proofs.has_room.Goals as goal

pub returns-then-not-to-k : goal.returns-then-not-to-k
returns-then-not-to-k c = let a = c.args in
    sym (room_none a.n a.initiator a.outgoing a.room a.k (c.if-not-to-k.true))

pub returns : goal.returns
returns c = let a = c.args in
    let goes = c.if-not-to-k.false in
    room_some a.n a.initiator a.outgoing a.room a.k goes c.strand_start.ensures.value c.size_to.ensures.value
