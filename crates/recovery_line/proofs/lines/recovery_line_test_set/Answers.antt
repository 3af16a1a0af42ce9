-- `recovery_line_test_set` meets its contract.
use mathlib.Core.Path.{◌≡◌, refl, sym, ◌∙◌}
use lib.ListN.{length}
use Rattle.words.specs.Words.{shape_length, set_length, pair_length}
use Rattle.consistency.specs.Set.{answer_to_test}
use Rattle.book.proofs.Refusals.{is_accepted, value_is}
use Rattle.recovery_line.proofs.Shells.{three_long, question_is}
use Rattle.recovery_line.proofs.LineCalls.{test_wrong, test_shown, test_refused}
use Rattle.recovery_line.proofs.lines.recovery_line_test_set.Goals as goal

pub returns-then-question-ne0 : goal.returns-then-question-ne0
returns-then-question-ne0 c = let a = c.args in
    let whole = test_wrong a.shape.now a.sent.now a.received.now a.set.now a.pair.now
    c.three_question-question.ensures c.if-question-ne0.true in
    record { value = whole.0; pair_after = whole.1 }

pub shape_in-given-requires : goal.shape_in-given-requires
shape_in-given-requires c = let long : let a = c.args in
    (length a.shape.now ≡ shape_length) × ((length a.set.now ≡ set_length) × (length a.pair.now ≡ pair_length)) = let a = c.args in
    three_long shape_length set_length pair_length a.shape.now a.set.now a.pair.now c.three_question-question.ensures c.if-question-ne0.false in
    (long).0

pub set_in-chosen-requires : goal.set_in-chosen-requires
set_in-chosen-requires c = let long : let a = c.args in
    (length a.shape.now ≡ shape_length) × ((length a.set.now ≡ set_length) × (length a.pair.now ≡ pair_length)) = let a = c.args in
    three_long shape_length set_length pair_length a.shape.now a.set.now a.pair.now c.three_question-question.ensures c.if-question-ne0.false in
    (long).1.0

pub put_pair-requires : goal.put_pair-requires
put_pair-requires c = let long : let a = c.args in
    (length a.shape.now ≡ shape_length) × ((length a.set.now ≡ set_length) × (length a.pair.now ≡ pair_length)) = let a = c.args in
    three_long shape_length set_length pair_length a.shape.now a.set.now a.pair.now c.three_question-question.ensures c.if-question-ne0.false in
    (long).1.1

pub put_pair-requires-in-Ok-Some : goal.put_pair-requires-in-Ok-Some
put_pair-requires-in-Ok-Some c = let long : let a = c.args in
    (length a.shape.now ≡ shape_length) × ((length a.set.now ≡ set_length) × (length a.pair.now ≡ pair_length)) = let a = c.args in
    three_long shape_length set_length pair_length a.shape.now a.set.now a.pair.now c.three_question-question.ensures c.if-question-ne0.false in
    (long).1.1

pub returns-in-Err : goal.returns-in-Err
unfolding answer_to_test
returns-in-Err c = let a = c.args in
    let (same, some) = question_is _ _ c.test_set.ensures c.in-Err.is c.number.ensures in
    let whole = test_refused a.shape.now a.sent.now a.received.now a.set.now a.pair.now
    c.three_question-question.ensures c.if-question-ne0.false c.shape_in-given.ensures c.set_in-chosen.ensures same some in
    record { value = whole.0; pair_after = whole.1 }

pub returns-in-Ok-None : goal.returns-in-Ok-None
unfolding answer_to_test
returns-in-Ok-None c = let a = c.args in
    let whole = test_shown a.shape.now a.sent.now a.received.now a.set.now a.pair.now
    c.three_question-question.ensures c.if-question-ne0.false c.shape_in-given.ensures c.set_in-chosen.ensures
    (sym (is_accepted _ _ c.test_set.ensures c.in-Ok-None.is))
    refl (sym c.in-Ok-None.field-0-is ∙ value_is _ _ c.test_set.ensures c.in-Ok-None.is) c.put_pair.ensures in
    record { value = whole.0; pair_after = whole.1 }

pub returns-in-Ok-Some : goal.returns-in-Ok-Some
unfolding answer_to_test
returns-in-Ok-Some c = let a = c.args in
    let whole = test_shown a.shape.now a.sent.now a.received.now a.set.now a.pair.now
    c.three_question-question.ensures c.if-question-ne0.false c.shape_in-given.ensures c.set_in-chosen.ensures
    (sym (is_accepted _ _ c.test_set.ensures c.in-Ok-Some.is))
    refl (sym c.in-Ok-Some.field-0-is ∙ value_is _ _ c.test_set.ensures c.in-Ok-Some.is) c.put_pair-in-Ok-Some.ensures in
    record { value = whole.0; pair_after = whole.1 }
