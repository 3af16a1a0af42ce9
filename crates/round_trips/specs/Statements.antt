-- Demand 1 and 2 for books and tables, as statements about the definitions that the contracts of `read`, `check` and
-- `write` cite. A slice of bytes holds numbers below 256, and a shape's array has sixteen counts.
-- `T b` is the library's "b is true", not document 01's T.
use Rattle.std.specs.Prelude.{◌≡◌, List, ◌++◌, ◌↔◌, ℕ, suc, ◌+◌, ◌-◌, ◌≤◌, ◌<◌, length, take, drop, T, Ok}
use Rattle.std.proofs.Math.Pow.{are_bytes}
use Rattle.book.specs.Bounds.{most_bytes, most_processes, entries}
use Rattle.book.specs.Lent.{Tables}
use Rattle.book.specs.Tables.{shape_of, sent_table, received_table, book_of, partner_column}
use Rattle.book.specs.View.{count, S, R}
use Rattle.book.specs.Check.{tables_question}
use Rattle.book.specs.Accepted.{AreAccepted}
use Rattle.book.specs.Read.{read_question, shape_read, sent_read, received_read, tables_read}
use Rattle.book.specs.Write.{book_bytes, bytes_of, answer_to_write, bytes_written}
use Rattle.book.specs.Layout.{Book}
use Rattle.round_trips.specs.WellFormed.{process, counter, WellFormed}

-- An accepted book read, and what the read leaves then written to a buffer with room for it, has its old bytes: their
-- length is the answer, they begin the buffer, and the rest of it is as before.
abbrev pub ReadThenWritten : Type 0
ReadThenWritten =
    (bytes sent received out : List ℕ) → T (are_bytes bytes) → read_question bytes sent received ≡ 0 → length bytes ≤ length out
    → let tables : Tables = tables_read bytes sent received in
    (answer_to_write tables out ≡ Ok (length bytes)) × (bytes_written tables out ≡ bytes ++ drop (length bytes) out)

-- Tables written, with a length for an answer, and so many bytes of the buffer then read, into any two tables of 4,096
-- entries, are the old tables.
abbrev pub WrittenThenRead : Type 0
WrittenThenRead =
    (tables : Tables) (out into into' : List ℕ) (long : ℕ) → length tables.shape.counts ≡ most_processes
    → length into ≡ entries → length into' ≡ entries → answer_to_write tables out ≡ Ok long
    → let bytes : List ℕ = take long (bytes_written tables out) in
    (read_question bytes into into' ≡ 0)
    × (shape_read bytes into into' ≡ tables.shape)
    × (sent_read bytes into into' ≡ tables.sent)
    × (received_read bytes into into' ≡ tables.received)

-- The tables of an accepted read pass the check of tables.
abbrev pub ReadPassesCheck : Type 0
ReadPassesCheck =
    (bytes sent received : List ℕ) → read_question bytes sent received ≡ 0
    → tables_question (tables_read bytes sent received) ≡ 0

-- Accepted tables never need more bytes than question 1 allows.
abbrev pub NeverTooLong : Type 0
NeverTooLong =
    (tables : Tables) → AreAccepted tables → length (bytes_of tables) ≤ most_bytes

-- A read is accepted exactly when no question fails: there are few enough bytes, the tables have their length, and the
-- bytes are those of a well-formed book, whole and with nothing after it.
abbrev pub AcceptedExactly : Type 0
AcceptedExactly =
    (bytes sent received : List ℕ) → T (are_bytes bytes)
    → read_question bytes sent received ≡ 0
    ↔ ((length bytes ≤ most_bytes) × (length sent ≡ entries) × (length received ≡ entries)
    × ((book : Book) × WellFormed book × (book_bytes book ≡ bytes)))

-- Tables are accepted exactly when they are those of a well-formed book, every count and entry.
abbrev pub TablesAcceptedExactly : Type 0
TablesAcceptedExactly =
    (tables : Tables) → length tables.shape.counts ≡ most_processes → tables_question tables ≡ 0
    ↔ ((book : Book) × WellFormed book × (tables.shape ≡ shape_of book) × (tables.sent ≡ sent_table book) × (tables.received ≡ received_table book))

-- The view of accepted tables is their book's: process j has as many checkpoints, and S and R for the k-th of the other
-- processes are the k-th sent and the k-th received counter. The view's checkpoints count from 1, the book's from 0.
abbrev pub ViewIsBook : Type 0
ViewIsBook =
    (tables : Tables) (j r k : ℕ) → AreAccepted tables → j < tables.shape.n
    → r < count tables.shape j → k < tables.shape.n - 1 → let book : Book = book_of tables in
    (count tables.shape j ≡ length (process book j))
    × (S tables.shape tables.sent j (suc r) (partner_column j k) ≡ counter book j r k)
    × (R tables.shape tables.received j (suc r) (partner_column j k) ≡ counter book j r (tables.shape.n - 1 + k))
