-- The exported call that takes a journal. It answers 0 or the number that refuses: first `wrong_length` for a shape of another length
-- than its own, then the questions of the call inside. A refusal changes nothing that was lent.
use Rattle.std.specs.Prelude.{List, ℕ}
use Rattle.book.specs.InTurn.{◌then◌, unless_refused}
use Rattle.journal.specs.Calls.{journal_question, shape_built, sent_built, received_built}
use Rattle.words.specs.Plain.{shape_words}
use Rattle.recovery_line.specs.Books.{shape_question}

module _ (bytes shape sent received : List ℕ) where
  unfoldable pub journal_answer : ℕ
  journal_answer = shape_question shape then λ _. journal_question bytes sent received

  unfoldable pub journal_shape : List ℕ
  journal_shape = unless_refused journal_answer shape (shape_words (shape_built bytes sent received))

  unfoldable pub journal_sent : List ℕ
  journal_sent = unless_refused journal_answer sent (sent_built bytes sent received)

  unfoldable pub journal_received : List ℕ
  journal_received = unless_refused journal_answer received (received_built bytes sent received)
