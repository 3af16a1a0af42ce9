-- `recovery_line_participant_receive` meets its contract.
use mathlib.Core.Path.{◌≡◌, refl, sym}
use native.Mathlib.Omega.{arith}
use lib.ListN.{length}
use Rattle.words.specs.Words.{shape_length, lengths_length}
use Rattle.words.specs.Participant.{participant_length}
use Rattle.book.proofs.Refusals.{is_accepted, value_is}
use Rattle.recovery_line.proofs.Shells.{three_long, question_is}
use Rattle.recovery_line.proofs.MachineCalls.{receive_wrong, receive_done, receive_refused}
use Rattle.recovery_line.proofs.machines.recovery_line_participant_receive.Goals as goal

pub returns-then-question-ne0 : goal.returns-then-question-ne0
returns-then-question-ne0 c = let a = c.args in
    let whole = receive_wrong a.state.now a.shape.now a.sent.now a.received.now a.message.now a.out.now a.lengths.now
    c.three_question-question.ensures c.if-question-ne0.true in
    record { value = whole.0; state_after = whole.1.0; out_after = whole.1.1.0; lengths_after = whole.1.1.1 }

pub shape_in-given-requires : goal.shape_in-given-requires
shape_in-given-requires c = let long : let a = c.args in
    (length a.shape.now ≡ shape_length) × ((length a.state.now ≡ participant_length) × (length a.lengths.now ≡ lengths_length)) = let a = c.args in
    three_long shape_length participant_length lengths_length a.shape.now a.state.now a.lengths.now c.three_question-question.ensures c.if-question-ne0.false in
    (long).0

pub participant_in-machine-requires : goal.participant_in-machine-requires
participant_in-machine-requires c = let long : let a = c.args in
    (length a.shape.now ≡ shape_length) × ((length a.state.now ≡ participant_length) × (length a.lengths.now ≡ lengths_length)) = let a = c.args in
    three_long shape_length participant_length lengths_length a.shape.now a.state.now a.lengths.now c.three_question-question.ensures c.if-question-ne0.false in
    (long).1.0

pub put_participant-requires : goal.put_participant-requires
put_participant-requires c = let long : let a = c.args in
    (length a.shape.now ≡ shape_length) × ((length a.state.now ≡ participant_length) × (length a.lengths.now ≡ lengths_length)) = let a = c.args in
    three_long shape_length participant_length lengths_length a.shape.now a.state.now a.lengths.now c.three_question-question.ensures c.if-question-ne0.false in
    omega (arith, (long).1.0)

pub put_numbers-requires : goal.put_numbers-requires
put_numbers-requires c = let long : let a = c.args in
    (length a.shape.now ≡ shape_length) × ((length a.state.now ≡ participant_length) × (length a.lengths.now ≡ lengths_length)) = let a = c.args in
    three_long shape_length participant_length lengths_length a.shape.now a.state.now a.lengths.now c.three_question-question.ensures c.if-question-ne0.false in
    omega (arith, (long).1.1)

pub returns-in-Err : goal.returns-in-Err
returns-in-Err c = let a = c.args in
    let (same, some) = question_is _ _ c.receive.ensures.answer c.in-Err.is c.number.ensures in
    let whole = receive_refused a.state.now a.shape.now a.sent.now a.received.now a.message.now a.out.now a.lengths.now
    c.three_question-question.ensures c.if-question-ne0.false c.shape_in-given.ensures
    c.participant_in-machine.ensures same c.receive.ensures.out_after some in
    record { value = whole.0; state_after = whole.1.0; out_after = whole.1.1.0; lengths_after = whole.1.1.1 }

pub returns-in-Ok : goal.returns-in-Ok
returns-in-Ok c = let a = c.args in
    let whole = receive_done a.state.now a.shape.now a.sent.now a.received.now a.message.now a.out.now a.lengths.now
    c.three_question-question.ensures c.if-question-ne0.false c.shape_in-given.ensures
    c.participant_in-machine.ensures
    (sym (is_accepted _ _ c.receive.ensures.answer c.in-Ok.is)) c.receive.ensures.out_after
    refl (value_is _ _ c.receive.ensures.answer c.in-Ok.is) c.put_participant.ensures c.put_numbers.ensures in
    record { value = whole.0; state_after = whole.1.0; out_after = whole.1.1.0; lengths_after = whole.1.1.1 }
