-- `read` meets its contract: the pass of questions decides, and the tables of an accepted journal are filled.
use mathlib.Core.Path.{◌∙◌}
use Rattle.book.proofs.Refusals.{refused_by, is_refused, is_accepted, value_is, hands_on, accepts}
use Rattle.journal_reader.proofs.ReadAnswers.{tables_left, tables_filled}
use Rattle.journal_reader.proofs.read.Goals as goal

pub returns-in_err-shape : goal.returns-in_err-shape
returns-in_err-shape c =
    let h = c.question.ensures in
    let was = c.in_err-shape.was in
    let left = tables_left _ _ _ (is_refused _ _ h was) in
    record {
      answer = hands_on _ c.in_err-shape.field-0.0 _ c.from_residual.ensures.1 (λ f same. same) (refused_by _ _ h was);
      sent = left.0;
      received = left.1;
    }

pub fill-requires : goal.fill-requires
fill-requires c =
    let h = c.question.ensures in
    let was = c.in_ok-shape.was in
    record { received_value = is_accepted _ _ h was; shape_value = value_is _ _ h was }

pub returns : goal.returns
returns c =
    let h = c.question.ensures in
    let was = c.in_ok-shape.was in
    let filled = tables_filled _ _ _ (is_accepted _ _ h was) in
    record {
      answer = accepts (is_accepted _ _ h was) (value_is _ _ h was);
      sent = c.fill.ensures.sent ∙ filled.0;
      received = c.fill.ensures.received ∙ filled.1;
    }
