-- Reading a book: bytes and two lent tables in; taken into the tables, or refused by the first question that fails.
use Rattle.std.specs.Prelude.{Bool, List, ℕ, length, replicate, eqb}
use Rattle.book.specs.Lent.{Tables, lent}
use Rattle.varint.specs.Sequence.{Numbers, numbers_at}
use Rattle.book.specs.declared.Shape.{Shape}
use Rattle.book.specs.Bounds.{groups, largest, mark, most_processes}
use Rattle.book.specs.Layout.{Book, book_in}
use Rattle.book.specs.Tables.{shape_of, sent_table, received_table}
use Rattle.book.specs.InTurn.{◌then◌, unless_refused}
use Rattle.book.specs.Questions.{bytes_question, length_question}
use Rattle.book.specs.Along.{book_question}

-- the numbers that bytes hold from a place on, up to the first place at which none stands
abbrev pub numbers_from : List ℕ → ℕ → Numbers
numbers_from bytes at = numbers_at groups largest bytes at

-- the numbers of a book: whoever looks for a number where none stands finds none, and question 3 fails
abbrev pub numbers_found : List ℕ → List ℕ
numbers_found bytes = (numbers_from bytes 0).found

-- and whether they end where the bytes end
abbrev pub end_with_bytes : List ℕ → Bool
end_with_bytes bytes = eqb (numbers_from bytes 0).stop (length bytes)

-- the first question that a read fails: 1, 2, then 3 to 9 along the book
unfoldable pub read_question : List ℕ → List ℕ → List ℕ → ℕ
read_question bytes sent received =
    bytes_question bytes then λ _. length_question sent received then λ _. book_question mark (end_with_bytes bytes) (numbers_found bytes)

-- the book that the bytes hold
abbrev pub book_read : List ℕ → Book
book_read bytes = book_in (numbers_found bytes)

-- the shape beside a refusal
abbrev pub no_shape : Shape
no_shape = record { n = 0; counts = replicate most_processes 0 }

-- what a read answers beside the question: the shape, and what it leaves in the tables
unfoldable pub shape_read : List ℕ → List ℕ → List ℕ → Shape
shape_read bytes sent received = unless_refused (read_question bytes sent received) no_shape (shape_of (book_read bytes))

unfoldable pub sent_read : List ℕ → List ℕ → List ℕ → List ℕ
sent_read bytes sent received = unless_refused (read_question bytes sent received) sent (sent_table (book_read bytes))

unfoldable pub received_read : List ℕ → List ℕ → List ℕ → List ℕ
received_read bytes sent received = unless_refused (read_question bytes sent received) received (received_table (book_read bytes))

-- all of them
abbrev pub tables_read : List ℕ → List ℕ → List ℕ → Tables
tables_read bytes sent received =
    lent (shape_read bytes sent received) (sent_read bytes sent received) (received_read bytes sent received)
