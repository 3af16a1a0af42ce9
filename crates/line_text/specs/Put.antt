-- A text put at the start of a lent buffer.
use Rattle.std.specs.Prelude.{List, ℕ, Result, length, leb}
use Rattle.std.proofs.lemmas.List.Edits.{sets}
use Rattle.book.specs.InTurn.{ask, answer_with, unless_refused}

-- question 17: do the bytes to be written fit the buffer?
abbrev pub put_question : List ℕ → List ℕ → ℕ
put_question text out = ask 17 (leb (length text) (length out))

-- the length written, or the question that refuses
unfoldable pub put_answer : List ℕ → List ℕ → Result ℕ ℕ
put_answer text out = answer_with (put_question text out) (length text)

-- the buffer afterwards: the bytes at its start, those after them untouched
unfoldable pub text_put : List ℕ → List ℕ → List ℕ
text_put text out = unless_refused (put_question text out) out (sets out 0 text)
