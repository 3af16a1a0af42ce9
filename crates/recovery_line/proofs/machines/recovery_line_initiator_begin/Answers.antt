-- `recovery_line_initiator_begin` meets its contract.
use mathlib.Core.Path.{◌≡◌, refl, sym}
use native.Mathlib.Omega.{arith}
use lib.ListN.{length}
use Rattle.words.specs.Words.{shape_length, lengths_length}
use Rattle.words.specs.Initiator.{initiator_length}
use Rattle.book.proofs.Refusals.{is_accepted, value_is}
use Rattle.recovery_line.proofs.Shells.{three_long, question_is}
use Rattle.recovery_line.proofs.MachineCalls.{begin_wrong, begin_done, begin_refused}
use Rattle.recovery_line.proofs.machines.recovery_line_initiator_begin.Goals as goal

pub returns-then-question-ne0 : goal.returns-then-question-ne0
returns-then-question-ne0 c = let a = c.args in
    let whole = begin_wrong a.shape.now a.sent.now a.received.now a.me a.purpose a.state.now a.out.now a.lengths.now
    c.three_question-question.ensures c.if-question-ne0.true in
    record { value = whole.0; state_after = whole.1.0; out_after = whole.1.1.0; lengths_after = whole.1.1.1 }

pub shape_in-given-requires : goal.shape_in-given-requires
shape_in-given-requires c = let long : let a = c.args in
    (length a.shape.now ≡ shape_length) × ((length a.state.now ≡ initiator_length) × (length a.lengths.now ≡ lengths_length)) = let a = c.args in
    three_long shape_length initiator_length lengths_length a.shape.now a.state.now a.lengths.now c.three_question-question.ensures c.if-question-ne0.false in
    (long).0

pub put_initiator-requires : goal.put_initiator-requires
put_initiator-requires c = let long : let a = c.args in
    (length a.shape.now ≡ shape_length) × ((length a.state.now ≡ initiator_length) × (length a.lengths.now ≡ lengths_length)) = let a = c.args in
    three_long shape_length initiator_length lengths_length a.shape.now a.state.now a.lengths.now c.three_question-question.ensures c.if-question-ne0.false in
    omega (arith, (long).1.0)

pub put_numbers-requires : goal.put_numbers-requires
put_numbers-requires c = let long : let a = c.args in
    (length a.shape.now ≡ shape_length) × ((length a.state.now ≡ initiator_length) × (length a.lengths.now ≡ lengths_length)) = let a = c.args in
    three_long shape_length initiator_length lengths_length a.shape.now a.state.now a.lengths.now c.three_question-question.ensures c.if-question-ne0.false in
    omega (arith, (long).1.1)

pub returns-in-Err : goal.returns-in-Err
returns-in-Err c = let a = c.args in
    let (same, some) = question_is _ _ c.begin.ensures.answer c.in-Err.is c.number-in-Err.ensures in
    let whole = begin_refused a.shape.now a.sent.now a.received.now a.me a.purpose a.state.now a.out.now a.lengths.now
    c.three_question-question.ensures c.if-question-ne0.false c.shape_in-given.ensures
    c.number.ensures same c.begin.ensures.out_after some in
    record { value = whole.0; state_after = whole.1.0; out_after = whole.1.1.0; lengths_after = whole.1.1.1 }

pub returns-in-Ok : goal.returns-in-Ok
returns-in-Ok c = let a = c.args in
    let whole = begin_done a.shape.now a.sent.now a.received.now a.me a.purpose a.state.now a.out.now a.lengths.now
    c.three_question-question.ensures c.if-question-ne0.false c.shape_in-given.ensures
    c.number.ensures
    (sym (is_accepted _ _ c.begin.ensures.answer c.in-Ok.is)) c.begin.ensures.out_after
    refl (value_is _ _ c.begin.ensures.answer c.in-Ok.is) c.put_initiator.ensures c.put_numbers.ensures in
    record { value = whole.0; state_after = whole.1.0; out_after = whole.1.1.0; lengths_after = whole.1.1.1 }
