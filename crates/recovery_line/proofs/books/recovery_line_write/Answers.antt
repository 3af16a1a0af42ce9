-- `recovery_line_write` meets its contract.
use mathlib.Core.Path.{◌≡◌, refl, sym}
use lib.ListN.{length}
use Rattle.words.specs.Words.{shape_length}
use Rattle.book.specs.Write.{answer_to_write}
use Rattle.book.proofs.Refusals.{is_accepted, value_is}
use Rattle.recovery_line.proofs.Shells.{one_long, question_is}
use Rattle.recovery_line.proofs.BookCalls.{write_wrong, write_done, write_refused}
use Rattle.recovery_line.proofs.books.recovery_line_write.Goals as goal

pub returns-then-question-ne0 : goal.returns-then-question-ne0
returns-then-question-ne0 c = let a = c.args in
    let whole = write_wrong a.shape.now a.sent.now a.received.now a.out.now a.length.now
    c.shape_question-question.ensures c.if-question-ne0.true in
    record { value = whole.0; out_after = whole.1.0; length_after = whole.1.1 }

pub shape_in-given-requires : goal.shape_in-given-requires
shape_in-given-requires c = let long : let a = c.args in
    length a.shape.now ≡ shape_length = let a = c.args in
    one_long shape_length a.shape.now c.shape_question-question.ensures c.if-question-ne0.false in
    long

pub returns-in-Err : goal.returns-in-Err
unfolding answer_to_write
returns-in-Err c = let a = c.args in
    let (same, some) = question_is _ _ c.write.ensures.answer c.in-Err.is c.number.ensures in
    let whole = write_refused a.shape.now a.sent.now a.received.now a.out.now a.length.now
    c.shape_question-question.ensures c.if-question-ne0.false c.shape_in-given.ensures same c.write.ensures.bytes some in
    record { value = whole.0; out_after = whole.1.0; length_after = whole.1.1 }

pub returns-in-Ok : goal.returns-in-Ok
unfolding answer_to_write
returns-in-Ok c = let a = c.args in
    let whole = write_done a.shape.now a.sent.now a.received.now a.out.now a.length.now
    c.shape_question-question.ensures c.if-question-ne0.false c.shape_in-given.ensures
    (sym (is_accepted _ _ c.write.ensures.answer c.in-Ok.is)) c.write.ensures.bytes
    refl (value_is _ _ c.write.ensures.answer c.in-Ok.is) c.of_number.ensures in
    record { value = whole.0; out_after = whole.1.0; length_after = whole.1.1 }
