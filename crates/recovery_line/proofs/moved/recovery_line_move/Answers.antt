-- `recovery_line_move` meets its contract.
use mathlib.Core.Path.{◌≡◌, refl, sym}
use lib.ListN.{length}
use Rattle.words.specs.Words.{shape_length, order_length}
use Rattle.book.proofs.Refusals.{is_accepted, value_is}
use Rattle.recovery_line.proofs.Shells.{two_long, question_is}
use Rattle.recovery_line.proofs.MoveCalls.{move_wrong, move_done, move_refused}
use Rattle.recovery_line.proofs.moved.recovery_line_move.Goals as goal

pub returns-then-question-ne0 : goal.returns-then-question-ne0
returns-then-question-ne0 c = let a = c.args in
    let whole = move_wrong a.shape.now a.sent.now a.received.now a.purpose a.order.now
    c.two_question-question.ensures c.if-question-ne0.true in
    record { value = whole.0; shape_after = whole.1.0; sent_after = whole.1.1.0; received_after = whole.1.1.1.0; order_after = whole.1.1.1.1 }

pub shape_in-given-requires : goal.shape_in-given-requires
shape_in-given-requires c = let long : let a = c.args in
    (length a.shape.now ≡ shape_length) × (length a.order.now ≡ order_length) = let a = c.args in
    two_long shape_length order_length a.shape.now a.order.now c.two_question-question.ensures c.if-question-ne0.false in
    (long).0

pub put_shape-requires : goal.put_shape-requires
put_shape-requires c = let long : let a = c.args in
    (length a.shape.now ≡ shape_length) × (length a.order.now ≡ order_length) = let a = c.args in
    two_long shape_length order_length a.shape.now a.order.now c.two_question-question.ensures c.if-question-ne0.false in
    (long).0

pub put_order-requires : goal.put_order-requires
put_order-requires c = let long : let a = c.args in
    (length a.shape.now ≡ shape_length) × (length a.order.now ≡ order_length) = let a = c.args in
    two_long shape_length order_length a.shape.now a.order.now c.two_question-question.ensures c.if-question-ne0.false in
    (long).1

pub returns-in-Err : goal.returns-in-Err
returns-in-Err c = let a = c.args in
    let (same, some) = question_is _ _ c.move_line.ensures.answer c.in-Err.is c.number.ensures in
    let whole = move_refused a.shape.now a.sent.now a.received.now a.purpose a.order.now
    c.two_question-question.ensures c.if-question-ne0.false c.shape_in-given.ensures same c.move_line.ensures.sent_after c.move_line.ensures.received_after some in
    record { value = whole.0; shape_after = whole.1.0; sent_after = whole.1.1.0; received_after = whole.1.1.1.0; order_after = whole.1.1.1.1 }

pub returns-in-Ok : goal.returns-in-Ok
returns-in-Ok c = let a = c.args in
    let whole = move_done a.shape.now a.sent.now a.received.now a.purpose a.order.now
    c.two_question-question.ensures c.if-question-ne0.false c.shape_in-given.ensures
    (sym (is_accepted _ _ c.move_line.ensures.answer c.in-Ok.is)) c.move_line.ensures.sent_after c.move_line.ensures.received_after
    refl (value_is _ _ c.move_line.ensures.answer c.in-Ok.is) c.put_shape.ensures c.put_order.ensures in
    record { value = whole.0; shape_after = whole.1.0; sent_after = whole.1.1.0; received_after = whole.1.1.1.0; order_after = whole.1.1.1.1 }
