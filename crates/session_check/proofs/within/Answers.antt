-- `within` meets its contract.
use Rattle.session_check.proofs.Strand.{none_waits, beyond_slot, within_room}
use Rattle.session_check.proofs.within.Goals as goal

pub returns-then-waits-eq0 : goal.returns-then-waits-eq0
returns-then-waits-eq0 c =
    let a = c.args in
    none_waits a.n a.initiator a.k a.waits a.room c.if-waits-eq0.true

pub returns-then-slot_size-waits : goal.returns-then-slot_size-waits
returns-then-slot_size-waits c =
    let a = c.args in
    beyond_slot a.n a.initiator a.k a.waits a.room c.if-waits-eq0.false c.slot_size.ensures.value c.if-slot_size-waits.true

pub returns : goal.returns
returns c =
    let a = c.args in
    within_room a.n a.initiator a.k a.waits a.room c.if-waits-eq0.false c.slot_size.ensures.value c.strand_start.ensures.value
    c.if-slot_size-waits.false
