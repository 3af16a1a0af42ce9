-- `reader::read` meets its contract: a refusal leaves the lent tables, and an accepted book's are copied.
use mathlib.Core.Path.{◌≡◌, sym, ◌∙◌}
use lib.ListN.{length}
use Rattle.book.specs.Read.{book_read, read_question}
use Rattle.book.specs.InTurn.{answer_with}
use Rattle.book.specs.Numbers.{by_number}
use Rattle.book.specs.Tables.{shape_of}
use Rattle.book.proofs.Refusals.{refused_by, is_refused, is_accepted, value_is, hands_on, accepts}
use Rattle.reader.proofs.Stores.{empty_length}
use Rattle.reader.proofs.ReadTurns.{kept, sizes_refused, sizes_long, book_answer, book_copied}
use Rattle.reader.proofs.read.Goals as goal
use Rattle.reader.proofs.read.Goals.{After-take_book}

pub returns-in_err-sizes_question : goal.returns-in_err-sizes_question
returns-in_err-sizes_question c = let a = c.args in
    let h = c.sizes_question.ensures in
    let was = c.in_err-sizes_question.was in
    let asked = sizes_refused a.bytes.now a.sent.now a.received.now (is_refused _ _ h was) in
    let left = kept a.bytes.now a.sent.now a.received.now (λ z. is_refused _ _ h was (sym asked ∙ z)) in
    record {
      answer = hands_on _ c.in_err-sizes_question.field-0.0 (shape_of (book_read a.bytes.now)) c.from_residual.ensures.1 (λ f same. same)
          (asked ∙ refused_by _ _ h was);
      sent = left.0;
      received = left.1;
    }

-- after question 2
long : (c : After-take_book) → (length c.args.sent.now ≡ 4096) × (length c.args.received.now ≡ 4096)
long c = let a = c.args in
    sizes_long a.bytes.now a.sent.now a.received.now (is_accepted _ _ c.sizes_question.ensures c.in_ok-sizes_question.was)

answered : (c : After-take_book)
    → let a = c.args in
    by_number c.take_book.result
    ≡ answer_with (read_question a.bytes.now a.sent.now a.received.now) (shape_of (book_read a.bytes.now))
answered c = let a = c.args in
    let did = c.take_book.ensures in
    book_answer a.bytes.now a.sent.now a.received.now (is_accepted _ _ c.sizes_question.ensures c.in_ok-sizes_question.was) _ _ _ did

pub returns-in_err-shape : goal.returns-in_err-shape
returns-in_err-shape c = let a = c.args in
    let h = answered (goal.at.returns-in_err-shape c).After-take_book in
    let was = c.in_err-shape.was in
    let left = kept a.bytes.now a.sent.now a.received.now (is_refused _ _ h was) in
    record {
      answer = hands_on _ c.in_err-shape.field-0.0 (shape_of (book_read a.bytes.now)) c.from_residual-in_err-shape.ensures.1 (λ f same. same)
          (refused_by _ _ h was);
      sent = left.0;
      received = left.1;
    }

pub copy_from_slice-requires : goal.copy_from_slice-requires
copy_from_slice-requires c =
    (long (goal.at.copy_from_slice-requires c).After-take_book).0 ∙ sym (c.take_book.auto.sent ∙ empty_length _ c.empty_table-sent_inside.ensures)

pub copy_from_slice-requires-2 : goal.copy_from_slice-requires-2
copy_from_slice-requires-2 c =
    (long (goal.at.copy_from_slice-requires-2 c).After-take_book).1
    ∙ sym (c.take_book.auto.received ∙ empty_length _ c.empty_table-received_inside.ensures)

pub returns : goal.returns
returns c = let a = c.args in
    let h = answered (goal.at.returns c).After-take_book in
    let was = c.in_ok-shape.was in
    let none = is_accepted _ _ h was in
    let both = book_copied a.bytes.now a.sent.now a.received.now (is_accepted _ _ c.sizes_question.ensures c.in_ok-sizes_question.was) _ _ _
    c.take_book.ensures none _ _ c.copy_from_slice.ensures.after c.copy_from_slice-2.ensures.after in
    record { answer = accepts none (value_is _ _ h was); sent = both.0; received = both.1 }
