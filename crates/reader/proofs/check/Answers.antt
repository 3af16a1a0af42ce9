-- `reader::check` meets its contract: questions 1 and 2, then those along the book.
use mathlib.Core.Path.{◌∙◌}
use Rattle.book.specs.Read.{book_read}
use Rattle.book.specs.Tables.{shape_of}
use Rattle.book.proofs.Refusals.{refused_by, is_refused, is_accepted, hands_on}
use Rattle.reader.proofs.ReadTurns.{sizes_refused, book_answer}
use Rattle.reader.proofs.check.Goals as goal

pub returns-in_err-sizes_question : goal.returns-in_err-sizes_question
returns-in_err-sizes_question c = let a = c.args in
    let h = c.sizes_question.ensures in
    let was = c.in_err-sizes_question.was in
    hands_on _ c.in_err-sizes_question.field-0.0 (shape_of (book_read a.bytes.now)) c.from_residual.ensures.1 (λ f same. same)
    (sizes_refused a.bytes.now a.sent.now a.received.now (is_refused _ _ h was) ∙ refused_by _ _ h was)

pub returns : goal.returns
returns c = let a = c.args in
    book_answer a.bytes.now a.sent.now a.received.now (is_accepted _ _ c.sizes_question.ensures c.in_ok-sizes_question.was) _ _ _
    c.take_book.ensures
