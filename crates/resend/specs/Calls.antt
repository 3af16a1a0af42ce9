-- The calls on lists of what to send again: write the list of the tables' restart order, read a list.
use Rattle.std.specs.Prelude.{List, ℕ, Result, length, leb}
use Rattle.std.proofs.lemmas.List.Edits.{sets}
use Rattle.book.specs.Lent.{Tables}
use Rattle.book.specs.InTurn.{◌then◌, ask, answer_with, unless_refused}
use Rattle.book.specs.Read.{numbers_found}
use Rattle.restart.specs.declared.Resend.{Resend}
use Rattle.restart.specs.Calls.{no_resend, move_question, order_given}
use Rattle.resend.specs.Layout.{list_bytes, list_in}
use Rattle.resend.specs.Questions.{list_question}

-- ---- write

module _ (tables : Tables) (purpose : ℕ) where
  -- the bytes of the list of the tables' restart order
  abbrev pub bytes_to_resend : List ℕ
  bytes_to_resend = list_bytes (order_given tables purpose).resend

  -- the questions of the order, then 17: do the bytes to be written fit the buffer?
  unfoldable pub write_list_question : List ℕ → ℕ
  write_list_question out = move_question tables purpose then λ _. ask 17 (leb (length bytes_to_resend) (length out))

  -- the length written, or the question that refuses
  unfoldable pub answer_to_write_list : List ℕ → Result ℕ ℕ
  answer_to_write_list out = answer_with (write_list_question out) (length bytes_to_resend)

  -- the buffer afterwards: the bytes at its start, those after them untouched
  unfoldable pub list_written : List ℕ → List ℕ
  list_written out = unless_refused (write_list_question out) out (sets out 0 bytes_to_resend)

-- ---- read

-- the list that bytes hold; nothing to send again beside a refusal
unfoldable pub list_read : ℕ → List ℕ → Resend
list_read n bytes = unless_refused (list_question n bytes) no_resend (list_in (numbers_found bytes))
