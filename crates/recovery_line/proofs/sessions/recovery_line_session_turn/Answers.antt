-- `recovery_line_session_turn` meets its contract.
use mathlib.Core.Path.{◌≡◌, refl, sym}
use lib.ListN.{length}
use Rattle.words.specs.Words.{shape_length}
use Rattle.words.specs.Session.{session_length}
use Rattle.book.proofs.Refusals.{is_accepted, value_is}
use Rattle.recovery_line.proofs.Shells.{two_long, question_is}
use Rattle.recovery_line.proofs.SessionCalls.{turn_wrong, turn_done, turn_refused}
use Rattle.recovery_line.proofs.sessions.recovery_line_session_turn.Goals as goal

pub returns-then-question-ne0 : goal.returns-then-question-ne0
returns-then-question-ne0 c = let a = c.args in
    let whole = turn_wrong a.session.now a.shape.now a.sent.now a.received.now a.p a.strands.now
    c.two_question-question.ensures c.if-question-ne0.true in
    record { value = whole.0; session_after = whole.1.0; strands_after = whole.1.1 }

pub shape_in-given-requires : goal.shape_in-given-requires
shape_in-given-requires c = let long : let a = c.args in
    (length a.shape.now ≡ shape_length) × (length a.session.now ≡ session_length) = let a = c.args in
    two_long shape_length session_length a.shape.now a.session.now c.two_question-question.ensures c.if-question-ne0.false in
    (long).0

pub session_in-held-requires : goal.session_in-held-requires
session_in-held-requires c = let long : let a = c.args in
    (length a.shape.now ≡ shape_length) × (length a.session.now ≡ session_length) = let a = c.args in
    two_long shape_length session_length a.shape.now a.session.now c.two_question-question.ensures c.if-question-ne0.false in
    (long).1

pub put_session-requires : goal.put_session-requires
put_session-requires c = let long : let a = c.args in
    (length a.shape.now ≡ shape_length) × (length a.session.now ≡ session_length) = let a = c.args in
    two_long shape_length session_length a.shape.now a.session.now c.two_question-question.ensures c.if-question-ne0.false in
    (long).1

pub returns-in-Err : goal.returns-in-Err
returns-in-Err c = let a = c.args in
    let (same, some) = question_is _ _ c.turn.ensures.answer c.in-Err.is c.number-in-Err.ensures in
    let whole = turn_refused a.session.now a.shape.now a.sent.now a.received.now a.p a.strands.now
    c.two_question-question.ensures c.if-question-ne0.false c.shape_in-given.ensures c.number.ensures
    c.session_in-held.ensures same c.turn.ensures.strands_after some in
    record { value = whole.0; session_after = whole.1.0; strands_after = whole.1.1 }

pub returns-in-Ok : goal.returns-in-Ok
returns-in-Ok c = let a = c.args in
    let whole = turn_done a.session.now a.shape.now a.sent.now a.received.now a.p a.strands.now
    c.two_question-question.ensures c.if-question-ne0.false c.shape_in-given.ensures c.number.ensures
    c.session_in-held.ensures
    (sym (is_accepted _ _ c.turn.ensures.answer c.in-Ok.is)) c.turn.ensures.strands_after
    refl (value_is _ _ c.turn.ensures.answer c.in-Ok.is) c.put_session.ensures in
    record { value = whole.0; session_after = whole.1.0; strands_after = whole.1.1 }
