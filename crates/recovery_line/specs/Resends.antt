-- The exported calls on lists of what to send again: write the list of the tables' restart order, read a list.
use Rattle.std.specs.Prelude.{List, ℕ, length}
use Rattle.book.specs.Lent.{lent}
use Rattle.book.specs.InTurn.{◌then◌, ask, unless_refused}
use Rattle.resend.specs.Questions.{list_question}
use Rattle.resend.specs.Calls.{bytes_to_resend, write_list_question, list_written, list_read}
use Rattle.words.specs.Words.{resend_length, wrong_length, is_long}
use Rattle.words.specs.Plain.{shape_in, resend_words}
use Rattle.recovery_line.specs.Books.{shape_question}

-- ---- write

module _ (shape sent received : List ℕ) (purpose : ℕ) (out : List ℕ) where
  unfoldable pub write_resend_answer : ℕ
  write_resend_answer = shape_question shape then λ _. write_list_question (lent (shape_in shape) sent received) purpose out

  unfoldable pub write_resend_out : List ℕ
  write_resend_out = unless_refused write_resend_answer out (list_written (lent (shape_in shape) sent received) purpose out)

  unfoldable pub write_resend_length : ℕ → ℕ
  write_resend_length before =
      unless_refused write_resend_answer before (length (bytes_to_resend (lent (shape_in shape) sent received) purpose))

-- ---- read

module _ (n : ℕ) (bytes resend : List ℕ) where
  unfoldable pub read_resend_answer : ℕ
  read_resend_answer = ask wrong_length (is_long resend_length resend) then λ _. list_question n bytes

  unfoldable pub read_resend_list : List ℕ
  read_resend_list = unless_refused read_resend_answer resend (resend_words (list_read n bytes))
