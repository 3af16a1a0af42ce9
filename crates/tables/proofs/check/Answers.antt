-- `tables::check` meets its contract.
use mathlib.Core.Path.{refl, sym, ◌∙◌}
use Rattle.book.specs.Lent.{lent}
use Rattle.book.proofs.Counts.{lengths_taken}
use Rattle.book.proofs.Refusals.{refused_by, is_refused, is_accepted, hands_on}
use Rattle.tables.proofs.Order.{lengths_fail, lengths_pass}
use Rattle.tables.proofs.check.Goals as goal

pub returns-in_err-length_question : goal.returns-in_err-length_question
returns-in_err-length_question c =
    let h = c.length_question.ensures in
    let was = c.in_err-length_question.was in
    hands_on _ c.in_err-length_question.field-0.0 tt c.from_residual.ensures.1 (λ f same. same)
    (sym (lengths_fail _ _ refl (is_refused _ _ h was)) ∙ refused_by _ _ h was)

pub contents_question-requires : goal.contents_question-requires
contents_question-requires c = let a = c.args in
    lengths_taken a.sent.now a.received.now (is_accepted _ _ c.length_question.ensures (c.in_ok-length_question.was))

pub returns : goal.returns
returns c = let a = c.args in
    rw (← lengths_pass (lent a.shape a.sent.now a.received.now) _ refl (is_accepted _ _ c.length_question.ensures (c.in_ok-length_question.was)))
    c.contents_question.ensures
