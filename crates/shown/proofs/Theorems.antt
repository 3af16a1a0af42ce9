-- The statements of `specs/Statements.antt` hold.
-- Assumes nothing.
use Rattle.shown.specs.Statements.{
  SentRowsShown,
  ReceivedRowsShown,
  ShapeShown,
  SameBook,
  AcceptedShows,
  AcceptedZeroElsewhere,
  TablesShown,
  ShownIsAccepted,
  ShownIsView,
}
use Rattle.shown.proofs.Rows
use Rattle.shown.proofs.Accepted
use Rattle.shown.proofs.Counters
use Rattle.shown.proofs.Books

pub sent_rows_shown : SentRowsShown
sent_rows_shown = Rows.sent_rows_shown

pub received_rows_shown : ReceivedRowsShown
received_rows_shown = Rows.received_rows_shown

pub shape_shown : ShapeShown
shape_shown = Rows.shape_shown

pub same_book : SameBook
same_book = Counters.same_book

pub accepted_shows : AcceptedShows
accepted_shows = Accepted.accepted_shows

pub accepted_zero_elsewhere : AcceptedZeroElsewhere
accepted_zero_elsewhere = Accepted.accepted_zero_elsewhere

pub tables_shown : TablesShown
tables_shown = Books.tables_shown

pub shown_is_accepted : ShownIsAccepted
shown_is_accepted = Books.shown_is_accepted

pub shown_is_view : ShownIsView
shown_is_view = Books.shown_is_view
