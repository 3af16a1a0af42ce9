-- The exported calls on books: read, check, write. Each answers 0 or the number that refuses: first `wrong_length` for a slice of words
-- (or of sixteen counters, where a call is lent some) of another length than its own, then the questions of the call inside. A
-- refusal changes nothing that was lent.
use Rattle.std.specs.Prelude.{List, ℕ, length}
use Rattle.book.specs.Lent.{lent}
use Rattle.book.specs.InTurn.{◌then◌, ask, unless_refused}
use Rattle.book.specs.Check.{tables_question}
use Rattle.book.specs.Read.{read_question, shape_read, sent_read, received_read}
use Rattle.book.specs.Write.{bytes_of, write_question, bytes_written}
use Rattle.words.specs.Words.{shape_length, wrong_length, is_long}
use Rattle.words.specs.Plain.{shape_in, shape_words}

-- has the slice of the shape its length?
abbrev pub shape_question : List ℕ → ℕ
shape_question shape = ask wrong_length (is_long shape_length shape)

-- ---- read

module _ (bytes shape sent received : List ℕ) where
  unfoldable pub read_answer : ℕ
  read_answer = shape_question shape then λ _. read_question bytes sent received

  unfoldable pub read_shape : List ℕ
  read_shape = unless_refused read_answer shape (shape_words (shape_read bytes sent received))

  unfoldable pub read_sent : List ℕ
  read_sent = unless_refused read_answer sent (sent_read bytes sent received)

  unfoldable pub read_received : List ℕ
  read_received = unless_refused read_answer received (received_read bytes sent received)

-- ---- check

unfoldable pub check_answer : List ℕ → List ℕ → List ℕ → ℕ
check_answer shape sent received = shape_question shape then λ _. tables_question (lent (shape_in shape) sent received)

-- ---- write

module _ (shape sent received out : List ℕ) where
  unfoldable pub write_answer : ℕ
  write_answer = shape_question shape then λ _. write_question (lent (shape_in shape) sent received) out

  unfoldable pub write_out : List ℕ
  write_out = unless_refused write_answer out (bytes_written (lent (shape_in shape) sent received) out)

  unfoldable pub write_length : ℕ → ℕ
  write_length before = unless_refused write_answer before (length (bytes_of (lent (shape_in shape) sent received)))
