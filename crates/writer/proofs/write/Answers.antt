-- `writer::write` meets its contract: at each return the tests that led there say which question fails first.
use mathlib.Core.Path.{sym, ◌∙◌}
use borrow.Author.Rules.{rules}
use borrow.Author.Tests.{leb-true}
use lib.ListN.{length}
use Rattle.book.specs.Lent.{lent}
use Rattle.book.specs.Write.{bytes_of, answer_to_write}
use Rattle.book.proofs.Refusals.{refused_by, is_refused, is_accepted, hands_on}
use Rattle.writer.proofs.Answers.{accepted, refused, full, written}
use Rattle.writer.proofs.write.Goals as goal

pub returns-in_err-check : goal.returns-in_err-check
unfolding answer_to_write
returns-in_err-check c = let a = c.args in
    let h = c.check.ensures in
    let was = c.in_err-check.was in
    let both = refused (lent a.shape a.sent.now a.received.now) a.out.now (refused_by _ _ h was) (is_refused _ _ h was) in
    record {
      answer = hands_on _ c.in_err-check.field-0.0 (length (bytes_of (lent a.shape a.sent.now a.received.now))) c.from_residual.ensures.1 (λ f same. same) both.0;
      bytes = both.1;
    }

pub has_room-requires : goal.has_room-requires
has_room-requires c = record { sixteen = search rules; passed = is_accepted _ _ c.check.ensures c.in_ok-check.was }

pub returns-then-not-has_room : goal.returns-then-not-has_room
returns-then-not-has_room c =
    let both = full _ _ (is_accepted _ _ c.check.ensures c.in_ok-check.was) (sym c.has_room.ensures ∙ c.if-not-has_room.true) in
    record { answer = both.0; bytes = both.1 }

pub write_book-size-requires : goal.write_book-size-requires
write_book-size-requires c = let fits = accepted _ (is_accepted _ _ c.check.ensures c.in_ok-check.was) in
    record {
      book_fits = fits.0;
      book_fits_2 = fits.1;
      received_in_bounds = leb-true _ _ (sym c.has_room.ensures ∙ c.if-not-has_room.false);
    }

pub returns : goal.returns
returns c =
    let both = written _ _ (is_accepted _ _ c.check.ensures c.in_ok-check.was) (sym c.has_room.ensures ∙ c.if-not-has_room.false)
    c.write_book-size.ensures.value c.write_book-size.ensures.out_after in
    record { answer = both.0; bytes = both.1 }
