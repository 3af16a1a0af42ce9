-- What the call that takes a journal answers and leaves, by what the code finds out.
use mathlib.Core.Path.{◌≡◌}
use mathlib.Core.List.{List}
use Prim.Native.Nat.{ℕ}
use Rattle.book.specs.declared.Shape.{Shape}
use Rattle.book.specs.Tables.{shape_of, sent_table, received_table}
use Rattle.journal.specs.Calls.{journal_book, journal_question, shape_built, sent_built, received_built}
use Rattle.words.specs.Plain.{shape_words}
use Rattle.recovery_line.specs.Books.{shape_question}
use Rattle.recovery_line.specs.Journals.{journal_answer, journal_shape, journal_sent, journal_received}
use Rattle.recovery_line.proofs.BytesTaken.{taken_wrong, taken_refused, taken_whole}

module _ (bytes shape sent received : List ℕ) {q : ℕ} (same : q ≡ shape_question shape) where
  -- the answer, and what is left in each slice
  abbrev Journal : ℕ → List ℕ → List ℕ → List ℕ → Type 0
  Journal r shape' sent' received' =
      (r ≡ journal_answer bytes shape sent received)
      × ((shape' ≡ journal_shape bytes shape sent received)
      × ((sent' ≡ journal_sent bytes shape sent received) × (received' ≡ journal_received bytes shape sent received)))

  abbrev question : ℕ
  question = journal_question bytes sent received

  pub journal_wrong : (q ≡ 0 → ⊥) → Journal q shape sent received
  unfolding journal_answer journal_shape journal_sent journal_received shape_built sent_built received_built
  journal_wrong =
      taken_wrong question (shape_of (journal_book bytes)) (sent_table (journal_book bytes)) (received_table (journal_book bytes)) shape sent received same

  module _ (none : q ≡ 0) {r : ℕ} (of_call : r ≡ question) {sent' received' : List ℕ} (left : sent' ≡ sent_built bytes sent received) (left' : received' ≡ received_built bytes sent received)
    where
      pub journal_refused : (r ≡ 0 → ⊥) → Journal r shape sent' received'
      unfolding journal_answer journal_shape journal_sent journal_received shape_built sent_built received_built
      journal_refused =
          taken_refused question (shape_of (journal_book bytes)) (sent_table (journal_book bytes)) (received_table (journal_book bytes)) shape sent received
          same none of_call left left'

      pub journal_taken : r ≡ 0 → {taken : Shape} → taken ≡ shape_of (journal_book bytes) → {shape' : List ℕ} → shape' ≡ shape_words taken
          → Journal 0 shape' sent' received'
      unfolding journal_answer journal_shape journal_sent journal_received shape_built sent_built received_built
      journal_taken =
          taken_whole question (shape_of (journal_book bytes)) (sent_table (journal_book bytes)) (received_table (journal_book bytes)) shape sent received
          same none of_call left left'
