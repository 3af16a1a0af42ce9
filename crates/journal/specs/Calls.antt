-- Taking a journal (document 02, E1): bytes and two lent tables in; the book built stands in the tables, or the first question that
-- fails refuses. "The bytes, tables and leading n meet questions 1 to 4."
use Rattle.std.specs.Prelude.{Bool, List, ℕ, length, drop, get_or, eqb}
use Rattle.varint.specs.Sequence.{Numbers, numbers_at}
use Rattle.book.specs.declared.Shape.{Shape}
use Rattle.book.specs.Lent.{Tables, lent}
use Rattle.book.specs.Layout.{Book}
use Rattle.book.specs.Tables.{shape_of, sent_table, received_table}
use Rattle.book.specs.InTurn.{◌then◌, unless_refused}
use Rattle.book.specs.Questions.{bytes_question, length_question}
use Rattle.book.specs.Read.{no_shape}
use Rattle.journal.specs.declared.Event.{Event}
use Rattle.journal.specs.Bounds.{journal_groups, journal_largest}
use Rattle.journal.specs.Events.{events_in}
use Rattle.journal.specs.Questions.{journal_numbers_question}
use Rattle.journal.specs.Built.{book_built}

-- the numbers that a journal holds from a place on, up to the first place at which none stands
abbrev pub numbers_logged : List ℕ → ℕ → Numbers
numbers_logged bytes at = numbers_at journal_groups journal_largest bytes at

-- whether they end where the bytes end
abbrev pub numbers_end : List ℕ → ℕ → Bool
numbers_end bytes at = eqb (numbers_logged bytes at).stop (length bytes)

-- the first question that a journal fails
unfoldable pub journal_question : List ℕ → List ℕ → List ℕ → ℕ
journal_question bytes sent received =
    bytes_question bytes
    then λ _. length_question sent received
    then λ _. journal_numbers_question (numbers_end bytes 0) (numbers_logged bytes 0).found

-- a journal's leading n
abbrev pub leading_n : List ℕ → ℕ
leading_n bytes = get_or (numbers_logged bytes 0).found 0 0

-- and its events
abbrev pub events_logged : List ℕ → List Event
events_logged bytes = (events_in (numbers_end bytes 0) (drop 1 (numbers_logged bytes 0).found)).found

-- the book that it builds
abbrev pub journal_book : List ℕ → Book
journal_book bytes = book_built (leading_n bytes) (events_logged bytes)

-- what the call answers beside the question: the shape, and what it leaves in the tables
unfoldable pub shape_built : List ℕ → List ℕ → List ℕ → Shape
shape_built bytes sent received = unless_refused (journal_question bytes sent received) no_shape (shape_of (journal_book bytes))

unfoldable pub sent_built : List ℕ → List ℕ → List ℕ → List ℕ
sent_built bytes sent received = unless_refused (journal_question bytes sent received) sent (sent_table (journal_book bytes))

unfoldable pub received_built : List ℕ → List ℕ → List ℕ → List ℕ
received_built bytes sent received = unless_refused (journal_question bytes sent received) received (received_table (journal_book bytes))

-- all of them
abbrev pub tables_built : List ℕ → List ℕ → List ℕ → Tables
tables_built bytes sent received =
    lent (shape_built bytes sent received) (sent_built bytes sent received) (received_built bytes sent received)
