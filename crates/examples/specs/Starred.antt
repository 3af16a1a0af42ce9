-- Document 01, "Books and sessions tried": all starred examples, in one list, and what each of them claims of the
-- definitions that the contracts cite.
use Rattle.std.specs.Prelude.{◌≡◌, List, [], ◌∷◌, ℕ, ◌-◌, length, Option, Some, None, Result, Ok, Err}
use Rattle.book.specs.Lent.{Tables}
use Rattle.varint.specs.Number.{encode, read_number}
use Rattle.book.specs.declared.Shape.{Shape}
use Rattle.book.specs.declared.Checkpoint.{Checkpoint}
use Rattle.book.specs.declared.Process.{Process}
use Rattle.book.specs.Bounds.{groups, largest, most_processes}
use Rattle.book.specs.Tables.{padded}
use Rattle.book.specs.View.{S, R}
use Rattle.book.specs.InTurn.{answer_to}
use Rattle.book.specs.Check.{tables_question}
use Rattle.book.specs.Read.{no_shape, read_question, shape_read, sent_read, received_read, tables_read}
use Rattle.consistency.specs.Set.{answer_to_test}
use Rattle.finder.specs.Line.{line_found, passed_found}
use Rattle.restart.specs.Calls.{move_question, shape_moved}
use Rattle.session_examples.specs.Books.{blank, set_of, k1, k6, later_counter, largest_counter}
use Rattle.session_examples.specs.Outcome.{searched_in, ended_on}

-- ---- what can be claimed

pub data Example : Type 0 where
  -- a number has these bytes
  HasBytes : ℕ → List ℕ → Example
  -- these bytes are read as a number, whole
  IsNumber : List ℕ → ℕ → Example
  -- no number stands at the start of these bytes
  NoNumber : List ℕ → Example
  -- a book is refused by this question
  RefusedBy : List ℕ → ℕ → Example
  -- a book is accepted, with n and the counts of its processes
  AcceptedAs : List ℕ → ℕ → List ℕ → Example
  -- in a book, process j's checkpoint r has sent partner p so many messages, or received so many from it
  HasSent HasReceived : List ℕ → ℕ → ℕ → ℕ → ℕ → Example
  -- in a book, a set is not consistent, and this pair is shown
  NotConsistent : List ℕ → List ℕ → ℕ → ℕ → Example
  -- in a book, this line is found, with T
  HasLine : List ℕ → List ℕ → ℕ → Example
  -- in a book, a search by this initiator ends with all workers on this line, after so many rounds and messages
  Searched : List ℕ → ℕ → List ℕ → ℕ → ℕ → Example
  -- a book moved with this purpose has these counts
  MovedTo : List ℕ → ℕ → List ℕ → Example

-- what a read of a book answers, with the shape beside it
abbrev pub answered : List ℕ → Result (Unit {0}) ℕ × Shape
answered book = (answer_to (read_question book blank blank), shape_read book blank blank)

-- what a test of a set answers in the tables of a book
abbrev pub tested : List ℕ → List ℕ → Result (Option (Process × Process)) ℕ
tested book set = answer_to_test (tables_read book blank blank) (set_of set)

-- what a search for the line answers in the tables of a book, with the line and T beside it
abbrev pub found : List ℕ → Result (Unit {0}) ℕ × List Checkpoint × ℕ
found book =
    let tables : Tables = tables_read book blank blank in
    (answer_to (tables_question tables), line_found tables, passed_found tables)

-- what a move answers in the tables of a book, with the counts beside it
abbrev pub moved_in : List ℕ → ℕ → Result (Unit {0}) ℕ × List ℕ
moved_in book purpose =
    let tables : Tables = tables_read book blank blank in
    (answer_to (move_question tables purpose), (shape_moved tables purpose).counts)

abbrev pub Holds : Example → Type 0
Holds (HasBytes n bytes) = encode n ≡ bytes
Holds (IsNumber bytes n) = read_number groups largest bytes 0 ≡ Some (n, length bytes)
Holds (NoNumber bytes) = read_number groups largest bytes 0 ≡ None
Holds (RefusedBy book question) = answered book ≡ (Err question, no_shape)
Holds (AcceptedAs book n counts) = answered book ≡ (Ok tt, record { n = n; counts = padded most_processes counts })
Holds (HasSent book j r p v) = S (shape_read book blank blank) (sent_read book blank blank) (j - 1) r (p - 1) ≡ v
Holds (HasReceived book j r p v) = R (shape_read book blank blank) (received_read book blank blank) (j - 1) r (p - 1) ≡ v
Holds (NotConsistent book set j p) = tested book set ≡ Ok (Some (record { 0 = j }, record { 0 = p }))
Holds (HasLine book line passed) = found book ≡ (Ok tt, set_of line, passed)
Holds (Searched book initiator line rounds messages) =
    searched_in book initiator ≡ ended_on line rounds messages
Holds (MovedTo book purpose counts) = moved_in book purpose ≡ (Ok tt, padded most_processes counts)

-- all of a list hold
infixr 5 ◌also◌
pub data Hold : List Example → Type 0 where
  none : Hold []
  ◌also◌ : {example : Example} {more : List Example} → Holds example → Hold more → Hold (example ∷ more)

-- ---- the examples

abbrev pub starred : List Example
starred =
    RefusedBy [] 3
    ∷ AcceptedAs (0x01 ∷ 0x03 ∷ []) 1 (3 ∷ [])
    ∷ HasLine (0x01 ∷ 0x03 ∷ []) (3 ∷ []) 0
    ∷ Searched (0x01 ∷ 0x03 ∷ []) 1 (3 ∷ []) 0 0
    ∷ AcceptedAs (0x02 ∷ 0x01 ∷ 0x00 ∷ 0x00 ∷ 0x01 ∷ 0x00 ∷ 0x00 ∷ []) 2 (1 ∷ 1 ∷ [])
    ∷ HasLine (0x02 ∷ 0x01 ∷ 0x00 ∷ 0x00 ∷ 0x01 ∷ 0x00 ∷ 0x00 ∷ []) (1 ∷ 1 ∷ []) 0
    ∷ Searched (0x02 ∷ 0x01 ∷ 0x00 ∷ 0x00 ∷ 0x01 ∷ 0x00 ∷ 0x00 ∷ []) 1 (1 ∷ 1 ∷ []) 1 3
    ∷ Searched (0x02 ∷ 0x01 ∷ 0x00 ∷ 0x00 ∷ 0x01 ∷ 0x00 ∷ 0x00 ∷ []) 2 (1 ∷ 1 ∷ []) 1 3
    ∷ AcceptedAs k1 3 (2 ∷ 2 ∷ 2 ∷ [])
    ∷ HasReceived k1 1 2 2 4
    ∷ HasReceived k1 1 2 3 5
    ∷ HasSent k1 2 2 1 3
    ∷ HasSent k1 3 2 1 7
    ∷ NotConsistent k1 (2 ∷ 2 ∷ 2 ∷ []) 1 2
    ∷ HasLine k1 (1 ∷ 2 ∷ 2 ∷ []) 1
    ∷ Searched k1 1 (1 ∷ 2 ∷ 2 ∷ []) 2 10
    ∷ Searched k1 2 (1 ∷ 2 ∷ 2 ∷ []) 2 10
    ∷ AcceptedAs k6 3 (4 ∷ 4 ∷ 2 ∷ [])
    ∷ HasLine k6 (2 ∷ 1 ∷ 2 ∷ []) 5
    ∷ Searched k6 2 (2 ∷ 1 ∷ 2 ∷ []) 3 12
    ∷ MovedTo k6 1 (3 ∷ 4 ∷ 1 ∷ [])
    ∷ HasBytes 127 (0x7F ∷ [])
    ∷ IsNumber (0x7F ∷ []) 127
    ∷ HasBytes 128 (0x80 ∷ 0x01 ∷ [])
    ∷ IsNumber (0x80 ∷ 0x01 ∷ []) 128
    ∷ NoNumber (0x80 ∷ 0x00 ∷ [])
    ∷ RefusedBy (0x80 ∷ 0x00 ∷ []) 3
    ∷ AcceptedAs (later_counter largest_counter) 2 (2 ∷ 1 ∷ [])
    ∷ HasSent (later_counter largest_counter) 1 2 2 4294967294
    ∷ RefusedBy (later_counter (0xFF ∷ 0xFF ∷ 0xFF ∷ 0xFF ∷ 0x0F ∷ [])) 6
    ∷ RefusedBy (later_counter (0xFF ∷ 0xFF ∷ 0xFF ∷ 0xFF ∷ 0x1F ∷ [])) 3
    ∷ []

-- The starred examples hold.
abbrev pub Starred : Type 0
Starred = Hold starred
