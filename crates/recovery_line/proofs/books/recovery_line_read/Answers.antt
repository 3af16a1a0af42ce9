-- `recovery_line_read` meets its contract.
use mathlib.Core.Path.{◌≡◌, refl, sym}
use lib.ListN.{length}
use Rattle.words.specs.Words.{shape_length}
use Rattle.book.proofs.Refusals.{is_accepted, value_is}
use Rattle.recovery_line.proofs.Shells.{one_long, question_is}
use Rattle.recovery_line.proofs.BookCalls.{read_wrong, read_refused, read_taken}
use Rattle.recovery_line.proofs.books.recovery_line_read.Goals as goal

pub returns-then-question-ne0 : goal.returns-then-question-ne0
returns-then-question-ne0 c = let a = c.args in
    let whole = read_wrong a.bytes.now a.shape.now a.sent.now a.received.now
    c.shape_question-question.ensures c.if-question-ne0.true in
    record { value = whole.0; shape_after = whole.1.0; sent_after = whole.1.1.0; received_after = whole.1.1.1 }

pub put_shape-requires : goal.put_shape-requires
put_shape-requires c = let long : let a = c.args in
    length a.shape.now ≡ shape_length = let a = c.args in
    one_long shape_length a.shape.now c.shape_question-question.ensures c.if-question-ne0.false in
    long

pub returns-in-Err : goal.returns-in-Err
returns-in-Err c = let a = c.args in
    let (same, some) = question_is _ _ c.read.ensures.answer c.in-Err.is c.number.ensures in
    let whole = read_refused a.bytes.now a.shape.now a.sent.now a.received.now
    c.shape_question-question.ensures c.if-question-ne0.false same c.read.ensures.sent c.read.ensures.received some in
    record { value = whole.0; shape_after = whole.1.0; sent_after = whole.1.1.0; received_after = whole.1.1.1 }

pub returns-in-Ok : goal.returns-in-Ok
returns-in-Ok c = let a = c.args in
    let whole = read_taken a.bytes.now a.shape.now a.sent.now a.received.now
    c.shape_question-question.ensures c.if-question-ne0.false
    (sym (is_accepted _ _ c.read.ensures.answer c.in-Ok.is)) c.read.ensures.sent c.read.ensures.received
    refl (value_is _ _ c.read.ensures.answer c.in-Ok.is) c.put_shape.ensures in
    record { value = whole.0; shape_after = whole.1.0; sent_after = whole.1.1.0; received_after = whole.1.1.1 }
