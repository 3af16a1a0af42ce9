-- `recovery_line_test_checkpoint` meets its contract.
use mathlib.Core.Path.{◌≡◌, refl, sym, ◌∙◌}
use lib.ListN.{length}
use Rattle.book.specs.Bounds.{most_processes}
use Rattle.words.specs.Words.{shape_length}
use Rattle.consistency.specs.Known.{answer_to_column}
use Rattle.book.proofs.Refusals.{is_accepted, value_is}
use Rattle.recovery_line.proofs.Shells.{two_long, question_is}
use Rattle.recovery_line.proofs.LineCalls.{column_wrong, column_named, column_refused}
use Rattle.recovery_line.proofs.lines.recovery_line_test_checkpoint.Goals as goal

pub returns-then-question-ne0 : goal.returns-then-question-ne0
returns-then-question-ne0 c = let a = c.args in
    let whole = column_wrong a.shape.now a.sent.now a.received.now a.process a.checkpoint a.known.now a.partner.now
    c.two_question-question.ensures c.if-question-ne0.true in
    record { value = whole.0; partner_after = whole.1 }

pub shape_in-given-requires : goal.shape_in-given-requires
shape_in-given-requires c = let long : let a = c.args in
    (length a.shape.now ≡ shape_length) × (length a.known.now ≡ most_processes) = let a = c.args in
    two_long shape_length most_processes a.shape.now a.known.now c.two_question-question.ensures c.if-question-ne0.false in
    (long).0

pub counts_in-counts-requires : goal.counts_in-counts-requires
counts_in-counts-requires c = let long : let a = c.args in
    (length a.shape.now ≡ shape_length) × (length a.known.now ≡ most_processes) = let a = c.args in
    two_long shape_length most_processes a.shape.now a.known.now c.two_question-question.ensures c.if-question-ne0.false in
    (long).1

pub returns-in-Err : goal.returns-in-Err
unfolding answer_to_column
returns-in-Err c = let a = c.args in
    let (same, some) = question_is _ _ c.test_checkpoint.ensures c.in-Err.is c.number-in-Err.ensures in
    let whole = column_refused a.shape.now a.sent.now a.received.now a.process a.checkpoint a.known.now a.partner.now
    c.two_question-question.ensures c.if-question-ne0.false c.shape_in-given.ensures c.counts_in-counts.ensures
    c.number.ensures c.number-2.ensures same some in
    record { value = whole.0; partner_after = whole.1 }

pub returns-in-Ok-None : goal.returns-in-Ok-None
unfolding answer_to_column
returns-in-Ok-None c = let a = c.args in
    let whole = column_named a.shape.now a.sent.now a.received.now a.process a.checkpoint a.known.now a.partner.now
    c.two_question-question.ensures c.if-question-ne0.false c.shape_in-given.ensures c.counts_in-counts.ensures
    c.number.ensures c.number-2.ensures
    (sym (is_accepted _ _ c.test_checkpoint.ensures c.in-Ok-None.is))
    refl (sym c.in-Ok-None.field-0-is ∙ value_is _ _ c.test_checkpoint.ensures c.in-Ok-None.is) refl in
    record { value = whole.0; partner_after = whole.1 }

pub returns-in-Ok-Some : goal.returns-in-Ok-Some
unfolding answer_to_column
returns-in-Ok-Some c = let a = c.args in
    let whole = column_named a.shape.now a.sent.now a.received.now a.process a.checkpoint a.known.now a.partner.now
    c.two_question-question.ensures c.if-question-ne0.false c.shape_in-given.ensures c.counts_in-counts.ensures
    c.number.ensures c.number-2.ensures
    (sym (is_accepted _ _ c.test_checkpoint.ensures c.in-Ok-Some.is))
    refl (sym c.in-Ok-Some.field-0-is ∙ value_is _ _ c.test_checkpoint.ensures c.in-Ok-Some.is) c.of_number.ensures in
    record { value = whole.0; partner_after = whole.1 }
