-- `first_place` meets its contract.
use mathlib.Core.Path.{sym, ◌∙◌}
use Rattle.session_steps.proofs.Places.{nobody_there, somebody_there}
use Rattle.session_steps.proofs.first_place.Goals as goal

pub returns-then-not-is_participant : goal.returns-then-not-is_participant
returns-then-not-is_participant c = let a = c.args in
    let told = c.is_participant in
    nobody_there a.shape a.initiator a.purpose a.k c.no_participant.result
    (sym told.ensures ∙ c.if-not-is_participant.true)
    c.no_participant.ensures

pub returns : goal.returns
returns c = let a = c.args in
    let told = c.is_participant in
    somebody_there a.shape a.initiator a.purpose a.k c.before-2.result
    (sym told.ensures ∙ c.if-not-is_participant.false)
    c.before-2.ensures
