use mathlib.Core.Path.{refl, sym, ◌∙◌}
use Rattle.book.proofs.Refusals.{refused_by, is_refused, is_accepted, hands_on, accepts}
use Rattle.tables.proofs.ProcessLoop.{climbed_none, sent_fits, sent_fails, received_fails, climbed_more, climbed_end}
use Rattle.tables.proofs.process_question.Goals as goal

pub loop-r-init : goal.loop-r-init
loop-r-init c = climbed_none _ _ _ _ _ _ _ c.requires.rows_fit c.requires.rows_fit_2

pub row_question-requires : goal.row_question-requires
row_question-requires c = sent_fits _ _ _ _ _ _ _ _ _ c.loop-r.invariant c.loop-r-test.true

pub returns-in_err-row_question : goal.returns-in_err-row_question
returns-in_err-row_question c =
    let h = c.row_question.ensures in
    let was = c.in_err-row_question.was in
    hands_on _ c.in_err-row_question.field-0.0 tt c.from_residual.ensures.1 (λ f same. same)
    (sym (sent_fails _ _ _ _ _ _ _ _ _ c.loop-r.invariant c.loop-r-test.true _ c.sent_zeros.ensures _ refl (is_refused _ _ h was))
    ∙ refused_by _ _ h was)

pub returns-in_err-row_question-2 : goal.returns-in_err-row_question-2
returns-in_err-row_question-2 c =
    let h = c.row_question-in-loop-r.ensures in
    let was = c.in_err-row_question-2.was in
    hands_on _ c.in_err-row_question-2.field-0.0 tt c.from_residual-in_err-row_question-2.ensures.1 (λ f same. same)
    (sym (received_fails _ _ _ _ _ _ _ _ _ c.loop-r.invariant c.loop-r-test.true _ c.sent_zeros.ensures
    _ refl (is_accepted _ _ c.row_question.ensures c.in_ok-row_question.was) _ c.received_zeros.ensures _ refl (is_refused _ _ h was))
    ∙ refused_by _ _ h was)

pub loop-r-preserved : goal.loop-r-preserved
loop-r-preserved c =
    climbed_more _ _ _ _ _ _ _ _ _ c.loop-r.invariant c.loop-r-test.true _ c.sent_zeros.ensures
    _ refl (is_accepted _ _ c.row_question.ensures c.in_ok-row_question.was) _ c.received_zeros.ensures
    _ refl (is_accepted _ _ c.row_question-in-loop-r.ensures c.in_ok-row_question-2.was)

pub returns : goal.returns
returns c = accepts (sym (climbed_end _ _ _ _ _ _ _ _ _ c.loop-r.invariant c.loop-r-test.false)) refl
