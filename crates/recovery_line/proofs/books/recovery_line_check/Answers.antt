-- `recovery_line_check` meets its contract.
use mathlib.Core.Path.{◌≡◌, sym}
use lib.ListN.{length}
use Rattle.words.specs.Words.{shape_length}
use Rattle.book.proofs.Refusals.{is_accepted}
use Rattle.recovery_line.proofs.Shells.{one_long, question_is}
use Rattle.recovery_line.proofs.BookCalls.{check_wrong, check_asked}
use Rattle.recovery_line.proofs.books.recovery_line_check.Goals as goal

pub returns-then-question-ne0 : goal.returns-then-question-ne0
returns-then-question-ne0 c = let a = c.args in
    check_wrong a.shape.now a.sent.now a.received.now
    c.shape_question-question.ensures c.if-question-ne0.true

pub shape_in-given-requires : goal.shape_in-given-requires
shape_in-given-requires c = let long : let a = c.args in
    length a.shape.now ≡ shape_length = let a = c.args in
    one_long shape_length a.shape.now c.shape_question-question.ensures c.if-question-ne0.false in
    long

pub returns-in-Err : goal.returns-in-Err
returns-in-Err c = let a = c.args in
    check_asked a.shape.now a.sent.now a.received.now
    c.shape_question-question.ensures c.if-question-ne0.false c.shape_in-given.ensures
    (question_is _ _ c.check.ensures c.in-Err.is c.number.ensures).0

pub returns-in-Ok : goal.returns-in-Ok
returns-in-Ok c = let a = c.args in
    check_asked a.shape.now a.sent.now a.received.now
    c.shape_question-question.ensures c.if-question-ne0.false c.shape_in-given.ensures
    (sym (is_accepted _ _ c.check.ensures c.in-Ok.is))
