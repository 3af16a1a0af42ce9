-- `recovery_line_participant_first` meets its contract.
use mathlib.Core.Path.{◌≡◌, refl, sym}
use native.Mathlib.Omega.{arith}
use lib.ListN.{length}
use Rattle.words.specs.Words.{shape_length}
use Rattle.words.specs.Participant.{participant_length}
use Rattle.book.proofs.Refusals.{is_accepted, value_is}
use Rattle.recovery_line.proofs.Shells.{two_long, question_is}
use Rattle.recovery_line.proofs.MachineCalls.{first_wrong, first_made, first_refused}
use Rattle.recovery_line.proofs.machines.recovery_line_participant_first.Goals as goal

pub returns-then-question-ne0 : goal.returns-then-question-ne0
returns-then-question-ne0 c = let a = c.args in
    let whole = first_wrong a.shape.now a.sent.now a.received.now a.me a.initiator a.purpose a.state.now
    c.two_question-question.ensures c.if-question-ne0.true in
    record { value = whole.0; state_after = whole.1 }

pub shape_in-given-requires : goal.shape_in-given-requires
shape_in-given-requires c = let long : let a = c.args in
    (length a.shape.now ≡ shape_length) × (length a.state.now ≡ participant_length) = let a = c.args in
    two_long shape_length participant_length a.shape.now a.state.now c.two_question-question.ensures c.if-question-ne0.false in
    (long).0

pub put_participant-requires : goal.put_participant-requires
put_participant-requires c = let long : let a = c.args in
    (length a.shape.now ≡ shape_length) × (length a.state.now ≡ participant_length) = let a = c.args in
    two_long shape_length participant_length a.shape.now a.state.now c.two_question-question.ensures c.if-question-ne0.false in
    omega (arith, (long).1)

pub returns-in-Err : goal.returns-in-Err
returns-in-Err c = let a = c.args in
    let (same, some) = question_is _ _ c.first.ensures c.in-Err.is c.number-in-Err.ensures in
    let whole = first_refused a.shape.now a.sent.now a.received.now a.me a.initiator a.purpose a.state.now
    c.two_question-question.ensures c.if-question-ne0.false c.shape_in-given.ensures c.number.ensures c.number-2.ensures same some in
    record { value = whole.0; state_after = whole.1 }

pub returns-in-Ok : goal.returns-in-Ok
returns-in-Ok c = let a = c.args in
    let whole = first_made a.shape.now a.sent.now a.received.now a.me a.initiator a.purpose a.state.now
    c.two_question-question.ensures c.if-question-ne0.false c.shape_in-given.ensures c.number.ensures c.number-2.ensures
    (sym (is_accepted _ _ c.first.ensures c.in-Ok.is))
    refl (value_is _ _ c.first.ensures c.in-Ok.is) c.put_participant.ensures in
    record { value = whole.0; state_after = whole.1 }
