-- The statements of `specs/Statements.antt` hold.
-- Assumes nothing.
use mathlib.Core.Path.{◌≡◌, ap, ap₂, ◌∙◌}
use Prim.Native.Nat.{ℕ, suc, ◌-◌, ◌≤◌}
use native.Mathlib.Omega.{arith}
use Rattle.std.specs.Prelude.{Some, Ok}
use Rattle.book.specs.Bounds.{mark}
use Rattle.book.specs.View.{R}
use Rattle.book.proofs.Questions.{answer_passed, answer_refused}
use Rattle.line_theory.specs.Sets.{first_fault}
use Rattle.line_theory.specs.OfTables.{view_of}
use Rattle.line_theory.proofs.Tests.{permitted_in, permitted_out}
use Rattle.line_theory.proofs.Accepted.{accepted_book}
use Rattle.line_theory.proofs.Theorems.{
  pair_is_first,
  no_pair_is_consistent,
  partner_is_lowest,
  none_offends_is_permitted,
  partner_is_other,
  partner_is_known,
}
use Rattle.consistency.specs.Set.{chosen, test_question, shown_as, answer_to_test}
use Rattle.consistency.specs.Known.{counters, column_question, offending, named_as, answer_to_column}
use Rattle.consistency.specs.Statements.{
  ConsistentExactly,
  ShownExactly,
  RefusedExactly,
  PermittedExactly,
  NamedExactly,
  ColumnRefusedExactly,
  NamedIsOther,
}
use Rattle.consistency.proofs.Answers.{
  tells_consistent,
  tells_fault,
  tells_permitted,
  tells_offends,
  tells_refused,
}
use Rattle.consistency.proofs.Calls.{column_passed}

-- a number from 1 on
back : (i : ℕ) → 1 ≤ i → suc (i - 1) ≡ i
back i h = omega arith

before : {i k : ℕ} → i ≡ suc k → i - 1 ≡ k
before e = omega arith

from_1 : {i k : ℕ} → i ≡ suc k → 1 ≤ i
from_1 e = omega arith

-- ---- a set

pub consistent_exactly : ConsistentExactly
unfolding answer_to_test
consistent_exactly t set = (
  λ e.
      let (passed, None-found) = tells_consistent (test_question t set) (first_fault (view_of t) (chosen set)) e in
      (passed, (no_pair_is_consistent (view_of t) (chosen set)).0 None-found),
  λ h.
      answer_passed (test_question t set) (shown_as (first_fault (view_of t) (chosen set))) h.0
      ∙ ap (λ o. Ok (shown_as o)) ((no_pair_is_consistent (view_of t) (chosen set)).1 h.1),
)

pub shown_exactly : ShownExactly
unfolding answer_to_test
shown_exactly t set j p = (
  λ e.
      let told = tells_fault (test_question t set) (first_fault (view_of t) (chosen set)) j p e in (
        told.passed,
        from_1 told.first_is,
        from_1 told.second_is,
        rw (before told.first_is, before told.second_is) ((pair_is_first (view_of t) (chosen set) told.pair.0 told.pair.1).0 told.found),
      ),
  λ h.
      answer_passed (test_question t set) (shown_as (first_fault (view_of t) (chosen set))) h.0
      ∙ ap (λ o. Ok (shown_as o)) ((pair_is_first (view_of t) (chosen set) (j.0 - 1) (p.0 - 1)).1 h.3)
      ∙ ap₂ (λ (x y : ℕ). Ok (Some (record { 0 = x }, record { 0 = y }))) (back j.0 h.1) (back p.0 h.2),
)

pub refused_exactly : RefusedExactly
unfolding answer_to_test
refused_exactly t set question = (
  λ e. tells_refused (test_question t set) (shown_as (first_fault (view_of t) (chosen set))) question e,
  λ h. rw h.0 (answer_refused question (shown_as (first_fault (view_of t) (chosen set))) h.1),
)

-- ---- one checkpoint

pub permitted_exactly : PermittedExactly
unfolding answer_to_column
permitted_exactly t j r known =
    let row : ℕ → ℕ = λ p. R t.shape t.received (j - 1) r p in (
      λ e.
          let (passed, None-found) = tells_permitted (column_question t j r) (offending t j r (counters known)) e in
          (passed, permitted_in t.shape.n row (counters known) ((none_offends_is_permitted t.shape.n row (counters known)).0 None-found)),
      λ h.
          answer_passed (column_question t j r) (named_as (offending t j r (counters known))) h.0
          ∙ ap (λ o. Ok (named_as o))
          ((none_offends_is_permitted t.shape.n row (counters known)).1 (permitted_out t.shape.n row (counters known) h.1)),
    )

pub named_exactly : NamedExactly
unfolding answer_to_column
named_exactly t j r known p =
    let row : ℕ → ℕ = λ q. R t.shape t.received (j - 1) r q in (
      λ e.
          let (passed, (i, found, named)) = tells_offends (column_question t j r) (offending t j r (counters known)) p e in
          (passed, from_1 named, rw (before named) ((partner_is_lowest t.shape.n row (counters known) i).0 found)),
      λ h.
          answer_passed (column_question t j r) (named_as (offending t j r (counters known))) h.0
          ∙ ap (λ o. Ok (named_as o)) ((partner_is_lowest t.shape.n row (counters known) (p.0 - 1)).1 h.2)
          ∙ ap (λ (x : ℕ). Ok (Some (record { 0 = x }))) (back p.0 h.1),
    )

pub column_refused_exactly : ColumnRefusedExactly
unfolding answer_to_column
column_refused_exactly t j r known question = (
  λ e. tells_refused (column_question t j r) (named_as (offending t j r (counters known))) question e,
  λ h. rw h.0 (answer_refused question (named_as (offending t j r (counters known))) h.1),
)

pub named_is_other : NamedIsOther
unfolding answer_to_column
named_is_other t j r known p accepted e =
    let (passed, (i, found, named)) = tells_offends (column_question t j r) (offending t j r (counters known)) p e in
    let asked = column_passed t j r passed in
    let book = accepted_book accepted in (
      λ same. partner_is_other mark (view_of t) (j - 1) r i (counters known) book (omega (arith, asked.process)) asked.checkpoint.0 asked.checkpoint.1 found (omega arith),
      rw (before named) (partner_is_known mark (view_of t) (j - 1) r i (counters known) book (omega (arith, asked.process)) asked.checkpoint.0 asked.checkpoint.1 found),
    )
