-- The questions of a move: what is known once one of them was answered.
use mathlib.Core.Path.{◌≡◌, ◌∙◌}
use mathlib.Core.Bool.{false}
use Prim.Native.Nat.{ℕ}
use Rattle.book.specs.Lent.{Tables}
use Rattle.book.specs.InTurn.{ask}
use Rattle.book.specs.Check.{tables_question}
use Rattle.book.proofs.Questions.{then_passed, then_refused, ask_no}
use Rattle.book.specs.Names.{is_purpose}
use Rattle.restart.specs.Calls.{move_question}

module _ (t : Tables) (purpose : ℕ) where
  pub tables_refused : (tables_question t ≡ 0 → ⊥) → move_question t purpose ≡ tables_question t
  unfolding move_question
  tables_refused h = then_refused (tables_question t) (λ _. ask 11 (is_purpose purpose)) h

  pub purpose_refused : tables_question t ≡ 0 → is_purpose purpose ≡ false → move_question t purpose ≡ 11
  unfolding move_question
  purpose_refused none h = then_passed (tables_question t) (λ _. ask 11 (is_purpose purpose)) none ∙ ask_no 11 (is_purpose purpose) h
