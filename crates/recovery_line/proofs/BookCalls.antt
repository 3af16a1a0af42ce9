-- What the calls on books answer and leave, by what the code finds out.
use mathlib.Core.Path.{◌≡◌, ◌∙◌}
use mathlib.Core.List.{List}
use Prim.Native.Nat.{ℕ}
use lib.ListN.{length}
use Rattle.book.specs.Lent.{Tables, lent}
use Rattle.book.specs.declared.Shape.{Shape}
use Rattle.book.specs.Check.{tables_question}
use Rattle.book.specs.Tables.{shape_of, sent_table, received_table}
use Rattle.book.specs.Read.{book_read, read_question, shape_read, sent_read, received_read}
use Rattle.book.specs.Write.{bytes_of, write_question, bytes_written}
use Rattle.words.specs.Plain.{shape_in, shape_words}
use Rattle.recovery_line.specs.Books.{shape_question, read_answer, read_shape, read_sent, read_received, check_answer, write_answer, write_out, write_length}
use Rattle.recovery_line.proofs.Shells.{wrong, asked}
use Rattle.recovery_line.proofs.BytesTaken.{taken_wrong, taken_refused, taken_whole}
use Rattle.recovery_line.proofs.BytesWritten.{written_wrong, written_refused, written_done}

-- ---- read

module _ (bytes shape sent received : List ℕ) {q : ℕ} (same : q ≡ shape_question shape) where
  -- the answer, and what is left in each slice
  abbrev Read : ℕ → List ℕ → List ℕ → List ℕ → Type 0
  Read r shape' sent' received' =
      (r ≡ read_answer bytes shape sent received)
      × ((shape' ≡ read_shape bytes shape sent received)
      × ((sent' ≡ read_sent bytes shape sent received) × (received' ≡ read_received bytes shape sent received)))

  abbrev question : ℕ
  question = read_question bytes sent received

  pub read_wrong : (q ≡ 0 → ⊥) → Read q shape sent received
  unfolding read_answer read_shape read_sent read_received shape_read sent_read received_read
  read_wrong =
      taken_wrong question (shape_of (book_read bytes)) (sent_table (book_read bytes)) (received_table (book_read bytes)) shape sent received same

  module _ (none : q ≡ 0) {r : ℕ} (of_call : r ≡ question) {sent' received' : List ℕ} (left : sent' ≡ sent_read bytes sent received) (left' : received' ≡ received_read bytes sent received)
    where
      pub read_refused : (r ≡ 0 → ⊥) → Read r shape sent' received'
      unfolding read_answer read_shape read_sent read_received shape_read sent_read received_read
      read_refused =
          taken_refused question (shape_of (book_read bytes)) (sent_table (book_read bytes)) (received_table (book_read bytes)) shape sent received
          same none of_call left left'

      pub read_taken : r ≡ 0 → {taken : Shape} → taken ≡ shape_of (book_read bytes) → {shape' : List ℕ} → shape' ≡ shape_words taken
          → Read 0 shape' sent' received'
      unfolding read_answer read_shape read_sent read_received shape_read sent_read received_read
      read_taken =
          taken_whole question (shape_of (book_read bytes)) (sent_table (book_read bytes)) (received_table (book_read bytes)) shape sent received
          same none of_call left left'

-- ---- check

module _ (shape sent received : List ℕ) {q : ℕ} (same : q ≡ shape_question shape) where
  pub check_wrong : (q ≡ 0 → ⊥) → q ≡ check_answer shape sent received
  unfolding check_answer
  check_wrong some = wrong same (λ _. tables_question (lent (shape_in shape) sent received)) some

  pub check_asked : q ≡ 0 → {given : Shape} → given ≡ shape_in shape → {r : ℕ} → r ≡ tables_question (lent given sent received)
      → r ≡ check_answer shape sent received
  unfolding check_answer
  check_asked none given_is e =
      asked same (λ _. tables_question (lent (shape_in shape) sent received)) none
      (e ∙ (λ t. tables_question (lent (given_is t) sent received)))

-- ---- write

module _ (shape sent received out : List ℕ) (before : ℕ) {q : ℕ} (same : q ≡ shape_question shape) where
  abbrev tables : Tables
  tables = lent (shape_in shape) sent received

  abbrev Written : ℕ → List ℕ → ℕ → Type 0
  Written r out' length' =
      (r ≡ write_answer shape sent received out)
      × ((out' ≡ write_out shape sent received out) × (length' ≡ write_length shape sent received out before))

  pub write_wrong : (q ≡ 0 → ⊥) → Written q out before
  unfolding write_answer write_out write_length bytes_written
  write_wrong = written_wrong (write_question tables out) (bytes_of tables) shape out before same

  module _ (none : q ≡ 0) {given : Shape} (given_is : given ≡ shape_in shape) {r : ℕ} (of_call : r ≡ write_question (lent given sent received) out)
      {out' : List ℕ} (left : out' ≡ bytes_written (lent given sent received) out)
    where
      question_of : r ≡ write_question tables out
      question_of = of_call ∙ (λ t. write_question (lent (given_is t) sent received) out)

      left_is : out' ≡ bytes_written tables out
      left_is = left ∙ (λ t. bytes_written (lent (given_is t) sent received) out)

      pub write_refused : (r ≡ 0 → ⊥) → Written r out' before
      unfolding write_answer write_out write_length bytes_written
      write_refused = written_refused (write_question tables out) (bytes_of tables) shape out before same none question_of left_is

      pub write_done : r ≡ 0 → {bytes : ℕ} → bytes ≡ length (bytes_of (lent given sent received)) → {length' : ℕ} → length' ≡ bytes
          → Written 0 out' length'
      unfolding write_answer write_out write_length bytes_written
      write_done zeroed counted =
          written_done (write_question tables out) (bytes_of tables) shape out before same none question_of left_is zeroed
          (counted ∙ (λ t. length (bytes_of (lent (given_is t) sent received))))
