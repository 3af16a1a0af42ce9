-- `recovery_line_search` meets its contract.
use mathlib.Core.Path.{◌≡◌, refl, sym}
use native.Mathlib.Omega.{arith}
use lib.ListN.{length}
use Rattle.words.specs.Words.{shape_length, set_length}
use Rattle.book.proofs.Refusals.{is_accepted, value_is}
use Rattle.recovery_line.proofs.Shells.{two_long, question_is}
use Rattle.recovery_line.proofs.SearchCalls.{search_wrong, search_ended, search_refused}
use Rattle.recovery_line.proofs.sessions.recovery_line_search.Goals as goal

pub returns-then-question-ne0 : goal.returns-then-question-ne0
returns-then-question-ne0 c = let a = c.args in
    let whole = search_wrong a.shape.now a.sent.now a.received.now a.initiator a.purpose a.set.now a.newer.now
    a.rounds.now a.messages.now
    c.two_question-question.ensures c.if-question-ne0.true in
    record { value = whole.0; set_after = whole.1.0; newer_after = whole.1.1.0; rounds_after = whole.1.1.1.0; messages_after = whole.1.1.1.1 }

pub shape_in-given-requires : goal.shape_in-given-requires
shape_in-given-requires c = let long : let a = c.args in
    (length a.shape.now ≡ shape_length) × (length a.set.now ≡ set_length) = let a = c.args in
    two_long shape_length set_length a.shape.now a.set.now c.two_question-question.ensures c.if-question-ne0.false in
    (long).0

pub put_set-requires : goal.put_set-requires
put_set-requires c = let long : let a = c.args in
    (length a.shape.now ≡ shape_length) × (length a.set.now ≡ set_length) = let a = c.args in
    two_long shape_length set_length a.shape.now a.set.now c.two_question-question.ensures c.if-question-ne0.false in
    omega (arith, (long).1)

pub returns-in-Err : goal.returns-in-Err
returns-in-Err c = let a = c.args in
    let (same, some) = question_is _ _ c.search.ensures.answer c.in-Err.is c.number-in-Err.ensures in
    let whole = search_refused a.shape.now a.sent.now a.received.now a.initiator a.purpose a.set.now
    a.newer.now a.rounds.now a.messages.now
    c.two_question-question.ensures c.if-question-ne0.false c.shape_in-given.ensures c.number.ensures same some in
    record { value = whole.0; set_after = whole.1.0; newer_after = whole.1.1.0; rounds_after = whole.1.1.1.0; messages_after = whole.1.1.1.1 }

pub returns-in-Ok : goal.returns-in-Ok
returns-in-Ok c = let a = c.args in
    let whole = search_ended a.shape.now a.sent.now a.received.now a.initiator a.purpose a.set.now
    a.newer.now a.rounds.now a.messages.now
    c.two_question-question.ensures c.if-question-ne0.false c.shape_in-given.ensures c.number.ensures
    (sym (is_accepted _ _ c.search.ensures.answer c.in-Ok.is))
    refl (value_is _ _ c.search.ensures.answer c.in-Ok.is) c.put_set.ensures c.of_number.ensures c.of_tally.ensures c.of_tally-in-Ok.ensures in
    record { value = whole.0; set_after = whole.1.0; newer_after = whole.1.1.0; rounds_after = whole.1.1.1.0; messages_after = whole.1.1.1.1 }
