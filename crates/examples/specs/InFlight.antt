-- Document 02, E4, on books of two processes with a message on its way from process 2 to process 1 when the line moves; after the move
-- process 1 receives it and takes a checkpoint.
use Rattle.std.specs.Prelude.{◌≡◌, List, [], ◌∷◌, ℕ}
use Rattle.book.specs.Lent.{Tables}
use Rattle.book.specs.Accepted.{AreAccepted}
use Rattle.book.specs.Read.{tables_read}
use Rattle.line_theory.specs.OfTables.{view_of}
use Rattle.finder.specs.Line.{line_found}
use Rattle.shown.specs.Statements.{IsLonger}
use Rattle.session_examples.specs.Books.{blank, set_of}
use Rattle.restart.specs.Plan.{taken_off}
use Rattle.move_laws.specs.Moves.{tables_after}
use Rattle.move_laws.specs.Appended.{unmoved, advance, advanced, appended}

abbrev pub tables_in : List ℕ → Tables
tables_in book = tables_read book blank blank

-- a book, and the same with process 1's later checkpoint; the book moved with purpose 1, and that with the later checkpoint
pub record Books : Type 0 where
  pub before : Tables
  pub whole : Tables
  pub after : Tables
  pub longer : Tables

-- Nothing has been received yet.
abbrev pub smallest : Books
smallest =
    record {
      before = tables_in (0x02 ∷ 0x01 ∷ 0x00 ∷ 0x00 ∷ 0x02 ∷ 0x00 ∷ 0x00 ∷ 0x01 ∷ 0x00 ∷ []);
      whole = tables_in (0x02 ∷ 0x02 ∷ 0x00 ∷ 0x00 ∷ 0x00 ∷ 0x01 ∷ 0x02 ∷ 0x00 ∷ 0x00 ∷ 0x01 ∷ 0x00 ∷ []);
      after = tables_in (0x02 ∷ 0x01 ∷ 0x00 ∷ 0x00 ∷ 0x01 ∷ 0x01 ∷ 0x00 ∷ []);
      longer = tables_in (0x02 ∷ 0x02 ∷ 0x00 ∷ 0x00 ∷ 0x00 ∷ 0x01 ∷ 0x01 ∷ 0x01 ∷ 0x00 ∷ []);
    }

-- Of two messages sent one has been received: it is taken off at both ends, and the other one is on its way.
abbrev pub half_received : Books
half_received =
    record {
      before = tables_in (0x02 ∷ 0x02 ∷ 0x00 ∷ 0x00 ∷ 0x00 ∷ 0x01 ∷ 0x02 ∷ 0x00 ∷ 0x00 ∷ 0x02 ∷ 0x00 ∷ []);
      whole = tables_in (0x02 ∷ 0x03 ∷ 0x00 ∷ 0x00 ∷ 0x00 ∷ 0x01 ∷ 0x00 ∷ 0x02 ∷ 0x02 ∷ 0x00 ∷ 0x00 ∷ 0x02 ∷ 0x00 ∷ []);
      after = tables_in (0x02 ∷ 0x01 ∷ 0x00 ∷ 0x00 ∷ 0x01 ∷ 0x01 ∷ 0x00 ∷ []);
      longer = tables_in (0x02 ∷ 0x02 ∷ 0x00 ∷ 0x00 ∷ 0x00 ∷ 0x01 ∷ 0x01 ∷ 0x01 ∷ 0x00 ∷ []);
    }

-- in such books the line, the move, and the checkpoint appended; then the line of both, each by its own numbers
pub record InFlight (books : Books) (line_before line_whole line_longer : List ℕ) : Type 0 where
  pub line : line_found books.before ≡ set_of line_before
  pub moved : tables_after (advance books.before) ≡ books.after
  pub later : (appended (advanced (unmoved books.before)) books.whole).tables ≡ books.longer
  pub same : (line_found books.whole ≡ set_of line_whole) × (line_found books.longer ≡ set_of line_longer)

-- one checkpoint of process 2 went: 2 2 and 2 1 are the same checkpoints
abbrev pub Smallest : Type 0
Smallest = InFlight smallest (1 ∷ 2 ∷ []) (2 ∷ 2 ∷ []) (2 ∷ 1 ∷ [])

pub record HalfReceived : Type 0 where
  -- one checkpoint of each went: so are 3 2 and 2 1
  pub in_flight : InFlight half_received (2 ∷ 2 ∷ []) (3 ∷ 2 ∷ []) (2 ∷ 1 ∷ [])
  -- taken off the channel from process 2 to process 1, and off the other one
  pub off : (taken_off (view_of half_received.before) 1 1 0 ≡ 1) × (taken_off (view_of half_received.before) 1 0 1 ≡ 0)
  -- with `AppendedIsAccepted`, all that `SameLine` asks
  pub accepted : AreAccepted half_received.before × AreAccepted half_received.whole
  pub grown : IsLonger (view_of half_received.before) (view_of half_received.whole)
