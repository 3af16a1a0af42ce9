-- The statements of `specs/Statements.antt` hold.
-- Assumes nothing.
use mathlib.Core.Path.{◌≡◌, sym, ap, subst, ◌∙◌}
use mathlib.Core.List.{List}
use Prim.Native.Nat.{ℕ}
use Rattle.book.specs.Lent.{Tables}
use Rattle.book.specs.Bounds.{mark}
use Rattle.book.specs.Tables.{shape_of, sent_table, received_table, book_of}
use Rattle.book.specs.Read.{read_question, tables_read, book_read}
use Rattle.book.specs.Write.{book_bytes, bytes_of, write_question}
use Rattle.book.specs.Layout.{Book}
use Rattle.round_trips.specs.Statements.{
  ReadThenWritten,
  WrittenThenRead,
  ReadPassesCheck,
  NeverTooLong,
  AcceptedExactly,
  TablesAcceptedExactly,
  ViewIsBook,
}
use Rattle.round_trips.proofs.Books.{Good}
use Rattle.round_trips.proofs.Sizes.{bytes_few}
use Rattle.round_trips.proofs.Tables.{tables_taken, good_of, good_tables, of_good, of_shape, of_sent, of_received}
use Rattle.round_trips.proofs.Well.{good_well, well_good}
use Rattle.round_trips.proofs.Reading.{read_taken, read_good, read_bytes, shape_left_lem, sent_left, received_left, good_read, good_accepted}
use Rattle.round_trips.proofs.Writing.{write_given, write_taken, answer_given, answer_taken, buffer_left, bytes_left}
use Rattle.round_trips.proofs.View.{view_count, view_sent, view_received}

pub read_passes_check : ReadPassesCheck
read_passes_check bytes s r h =
    rw (shape_left_lem bytes s r h, sent_left bytes s r h, received_left bytes s r h) (good_tables (book_read bytes) (read_good bytes s r h))

pub read_then_written : ReadThenWritten
read_then_written bytes s r out t h room =
    let read : Tables = tables_read bytes s r in
    let same : bytes_of read ≡ bytes
    = rw (shape_left_lem bytes s r h, sent_left bytes s r h, received_left bytes s r h)
    (ap book_bytes (good_of (book_read bytes) (read_good bytes s r h)) ∙ read_bytes bytes s r t h) in
    let q : write_question read out ≡ 0 = write_given read out (read_passes_check bytes s r h) (rw same room) in (
      rw same at (answer_given read out q),
      rw same at (buffer_left read out q),
    )

pub never_too_long : NeverTooLong
never_too_long tables a = bytes_few (book_of tables) (of_good a.sixteen (tables_taken tables a.passed))

pub written_then_read : WrittenThenRead
written_then_read tables out into into' long sixteen l l' e =
    let c = tables_taken tables (write_taken tables out (answer_taken tables out long e).0).0 in
    let book : Book = book_of tables in
    let good : Good mark book = of_good sixteen c in
    let bytes : List ℕ = bytes_of tables in
    let q : read_question bytes into into' ≡ 0 = good_accepted book good into into' l l' in
    let same : book_read bytes ≡ book = good_read book good in
    rw (bytes_left tables out long e) (
      q,
      shape_left_lem bytes into into' q ∙ ap shape_of same ∙ of_shape sixteen c,
      sent_left bytes into into' q ∙ ap sent_table same ∙ of_sent sixteen c,
      received_left bytes into into' q ∙ ap received_table same ∙ of_received sixteen c,
    )

pub accepted_exactly : AcceptedExactly
accepted_exactly bytes s r t = (
  λ h.
      let a = read_taken bytes s r h in
      (a.few, a.sent, a.received, (book_read bytes, good_well (book_read bytes) (read_good bytes s r h), read_bytes bytes s r t h)),
  λ p.
      let book : Book = p.3.0 in
      subst (λ (b : List ℕ). read_question b s r ≡ 0) p.3.2 (good_accepted book (well_good book p.3.1) s r p.1 p.2),
)

pub tables_accepted_exactly : TablesAcceptedExactly
tables_accepted_exactly tables sixteen = (
  λ h.
      let c = tables_taken tables h in
      let book : Book = book_of tables in (
        book,
        good_well book (of_good sixteen c),
        sym (of_shape sixteen c),
        sym (of_sent sixteen c),
        sym (of_received sixteen c),
      ),
  λ p. rw (p.2, p.3, p.4) (good_tables p.0 (well_good p.0 p.1)),
)

pub view_is_book : ViewIsBook
view_is_book tables j i k a m p o =
    let c = tables_taken tables a.passed in (
      view_count a.sixteen c j m,
      view_sent a.sixteen c j m i k p o,
      view_received a.sixteen c j m i k p o,
    )
