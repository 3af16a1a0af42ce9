-- The answers of a read: questions 1 and 2, then those along the book, and the tables that are left.
use mathlib.Core.Path.{◌≡◌, sym, ap, ◌∙◌}
use mathlib.Core.List.{List}
use Prim.Native.Nat.{ℕ}
use lib.ListN.{length}
use Rattle.std.specs.Prelude.{Result}
use Rattle.book.specs.declared.Question.{Question}
use Rattle.book.specs.declared.Shape.{Shape}
use Rattle.book.specs.Bounds.{mark}
use Rattle.book.specs.Tables.{shape_of, sent_table, received_table}
use Rattle.book.specs.Read.{numbers_found, end_with_bytes, book_read, read_question, sent_read, received_read}
use Rattle.book.specs.InTurn.{◌then◌, answer_with}
use Rattle.book.specs.Numbers.{by_number}
use Rattle.book.specs.Questions.{bytes_question, length_question}
use Rattle.book.specs.Along.{book_question}
use Rattle.book.proofs.Counts.{lengths_taken}
use Rattle.book.proofs.Questions.{then_none, then_passed, then_refused, then_assoc, kept_passed, kept_refused}
use Rattle.reader.specs.Parts.{sizes_question, BookTaken}

module _ (bytes sent received : List ℕ) where
  parts : read_question bytes sent received
      ≡ (sizes_question (length bytes) (length sent) (length received) then λ _. book_question mark (end_with_bytes bytes) (numbers_found bytes))
  unfolding read_question
  parts = sym (then_assoc (bytes_question bytes) (λ _. length_question sent received) (λ _. book_question mark (end_with_bytes bytes) (numbers_found bytes)))

  -- a refusal leaves the tables as they were
  pub kept : (read_question bytes sent received ≡ 0 → ⊥) → (sent ≡ sent_read bytes sent received) × (received ≡ received_read bytes sent received)
  unfolding sent_read received_read
  kept ne = (
    sym (kept_refused (read_question bytes sent received) sent (sent_table (book_read bytes)) ne),
    sym (kept_refused (read_question bytes sent received) received (received_table (book_read bytes)) ne),
  )

  -- the tables of an accepted book
  pub filled : read_question bytes sent received ≡ 0
      → (sent_read bytes sent received ≡ sent_table (book_read bytes)) × (received_read bytes sent received ≡ received_table (book_read bytes))
  unfolding sent_read received_read
  filled e = (
    kept_passed (read_question bytes sent received) sent (sent_table (book_read bytes)) e,
    kept_passed (read_question bytes sent received) received (received_table (book_read bytes)) e,
  )

  -- question 1 or 2 fails
  pub sizes_refused : (sizes_question (length bytes) (length sent) (length received) ≡ 0 → ⊥)
      → read_question bytes sent received ≡ sizes_question (length bytes) (length sent) (length received)
  sizes_refused z = parts ∙ then_refused _ _ z

  -- neither fails
  module _ (z : sizes_question (length bytes) (length sent) (length received) ≡ 0) where
    pub sizes_long : (length sent ≡ 4096) × (length received ≡ 4096)
    sizes_long = lengths_taken sent received (then_none (bytes_question bytes) (λ _. length_question sent received) z).1

    module _ (r : Result Shape Question) (sent₁ received₁ : List ℕ) (did : BookTaken bytes r sent₁ received₁) where
      along : book_question mark (end_with_bytes bytes) (numbers_found bytes) ≡ read_question bytes sent received
      along = sym (parts ∙ then_passed _ _ z)

      pub book_answer : by_number r ≡ answer_with (read_question bytes sent received) (shape_of (book_read bytes))
      book_answer = did.answered ∙ ap (λ (q : ℕ). answer_with q (shape_of (book_read bytes))) along

      -- the pass's own tables are copied
      pub book_copied : read_question bytes sent received ≡ 0 → (sent' received' : List ℕ) → sent' ≡ sent₁ → received' ≡ received₁
          → (sent' ≡ sent_read bytes sent received) × (received' ≡ received_read bytes sent received)
      book_copied e sent' received' es er =
          let w = along ∙ e in
          (es ∙ did.sent_read w ∙ sym (filled e).0, er ∙ did.received_read w ∙ sym (filled e).1)
