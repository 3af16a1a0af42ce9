-- Writing a book: accepted tables to bytes at the start of a lent buffer.
use Rattle.std.specs.Prelude.{List, ℕ, Result, length, leb}
use Rattle.std.proofs.lemmas.List.Edits.{sets}
use Rattle.book.specs.Lent.{Tables}
use Rattle.varint.specs.Sequence.{encode_all}
use Rattle.book.specs.Layout.{Book, book_numbers}
use Rattle.book.specs.Tables.{book_of}
use Rattle.book.specs.InTurn.{◌then◌, ask, answer_with, unless_refused}
use Rattle.book.specs.Check.{tables_question}

-- a book's bytes
abbrev pub book_bytes : Book → List ℕ
book_bytes book = encode_all (book_numbers book)

-- the bytes of the book that tables hold
abbrev pub bytes_of : Tables → List ℕ
bytes_of tables = book_bytes (book_of tables)

-- the questions of the tables, then 17: do the bytes to be written fit the buffer?
unfoldable pub write_question : Tables → List ℕ → ℕ
write_question tables out = tables_question tables then λ _. ask 17 (leb (length (bytes_of tables)) (length out))

-- the length written, or the question that refuses
unfoldable pub answer_to_write : Tables → List ℕ → Result ℕ ℕ
answer_to_write tables out = answer_with (write_question tables out) (length (bytes_of tables))

-- the buffer afterwards: the bytes at its start, those after them untouched
unfoldable pub bytes_written : Tables → List ℕ → List ℕ
bytes_written tables out = unless_refused (write_question tables out) out (sets out 0 (bytes_of tables))
