-- What taking a journal leaves in the tables: a refusal leaves them as they were, an acceptance has the book there.
use mathlib.Core.Path.{◌≡◌, sym}
use mathlib.Core.List.{List}
use Prim.Native.Nat.{ℕ}
use Rattle.book.specs.Tables.{sent_table, received_table}
use Rattle.book.proofs.Questions.{kept_passed, kept_refused}
use Rattle.journal.specs.Calls.{journal_question, journal_book, sent_built, received_built}

module _ (s sent received : List ℕ) where
  pub tables_left : (journal_question s sent received ≡ 0 → ⊥) → (sent ≡ sent_built s sent received) × (received ≡ received_built s sent received)
  unfolding sent_built received_built
  tables_left ne = (
    sym (kept_refused (journal_question s sent received) sent (sent_table (journal_book s)) ne),
    sym (kept_refused (journal_question s sent received) received (received_table (journal_book s)) ne),
  )

  pub tables_filled : journal_question s sent received ≡ 0
      → (sent_table (journal_book s) ≡ sent_built s sent received) × (received_table (journal_book s) ≡ received_built s sent received)
  unfolding sent_built received_built
  tables_filled z = (
    sym (kept_passed (journal_question s sent received) sent (sent_table (journal_book s)) z),
    sym (kept_passed (journal_question s sent received) received (received_table (journal_book s)) z),
  )
