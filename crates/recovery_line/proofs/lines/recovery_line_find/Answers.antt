-- `recovery_line_find` meets its contract.
use mathlib.Core.Path.{◌≡◌, refl, sym}
use native.Mathlib.Omega.{arith}
use lib.ListN.{length}
use Rattle.words.specs.Words.{shape_length, set_length}
use Rattle.book.proofs.Refusals.{is_accepted, value_is}
use Rattle.recovery_line.proofs.Shells.{two_long, question_is}
use Rattle.recovery_line.proofs.LineCalls.{find_wrong, find_found, find_refused}
use Rattle.recovery_line.proofs.lines.recovery_line_find.Goals as goal

pub returns-then-question-ne0 : goal.returns-then-question-ne0
returns-then-question-ne0 c = let a = c.args in
    let whole = find_wrong a.shape.now a.sent.now a.received.now a.line.now a.passed.now
    c.two_question-question.ensures c.if-question-ne0.true in
    record { value = whole.0; line_after = whole.1.0; passed_after = whole.1.1 }

pub shape_in-given-requires : goal.shape_in-given-requires
shape_in-given-requires c = let long : let a = c.args in
    (length a.shape.now ≡ shape_length) × (length a.line.now ≡ set_length) = let a = c.args in
    two_long shape_length set_length a.shape.now a.line.now c.two_question-question.ensures c.if-question-ne0.false in
    (long).0

pub put_set-requires : goal.put_set-requires
put_set-requires c = let long : let a = c.args in
    (length a.shape.now ≡ shape_length) × (length a.line.now ≡ set_length) = let a = c.args in
    two_long shape_length set_length a.shape.now a.line.now c.two_question-question.ensures c.if-question-ne0.false in
    omega (arith, (long).1)

pub returns-in-Err : goal.returns-in-Err
returns-in-Err c = let a = c.args in
    let (same, some) = question_is _ _ c.find_line.ensures c.in-Err.is c.number.ensures in
    let whole = find_refused a.shape.now a.sent.now a.received.now a.line.now a.passed.now
    c.two_question-question.ensures c.if-question-ne0.false c.shape_in-given.ensures same some in
    record { value = whole.0; line_after = whole.1.0; passed_after = whole.1.1 }

pub returns-in-Ok : goal.returns-in-Ok
returns-in-Ok c = let a = c.args in
    let whole = find_found a.shape.now a.sent.now a.received.now a.line.now a.passed.now
    c.two_question-question.ensures c.if-question-ne0.false c.shape_in-given.ensures
    (sym (is_accepted _ _ c.find_line.ensures c.in-Ok.is))
    refl (value_is _ _ c.find_line.ensures c.in-Ok.is) c.put_set.ensures c.of_number.ensures in
    record { value = whole.0; line_after = whole.1.0; passed_after = whole.1.1 }
