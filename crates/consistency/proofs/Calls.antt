-- From accepted tables to what the functions below a call are given, and which question fails first.
use mathlib.Core.Path.{◌≡◌, ◌∙◌}
use mathlib.Core.Bool.{true, false}
use mathlib.Core.List.{List}
use Prim.Native.Nat.{ℕ, ◌-◌, ◌≤◌, ◌<◌}
use native.Mathlib.Omega.{arith}
use borrow.Author.Tests.{leb-true}
use lib.Dec.{leb}
use Rattle.book.specs.Lent.{Tables}
use Rattle.book.specs.declared.Checkpoint.{Checkpoint}
use Rattle.book.specs.declared.TableRows.{TableRows}
use Rattle.book.specs.Names.{is_named}
use Rattle.book.specs.View.{count}
use Rattle.book.specs.InTurn.{ask}
use Rattle.book.specs.Check.{tables_question}
use Rattle.book.specs.Accepted.{AcceptedRows, IsProcess}
use Rattle.book.proofs.Names.{named_in}
use Rattle.book.proofs.Questions.{then_passed, then_refused, then_none, then_both, ask_yes, ask_no, asked_yes}
use Rattle.lists.proofs.Tests.{and_both}
use Rattle.line_theory.specs.Sets.{View, IsSet}
use Rattle.line_theory.proofs.Accepted.{accepted_size, accepted_lengths, received_rises, rows_placed}
use Rattle.consistency.specs.Set.{is_there, all_there, test_question}
use Rattle.consistency.specs.Known.{column_question}
use Rattle.consistency.specs.Given.{Whole, Rises}

-- the rows that a call finds, in each of the accepted tables
module _ {rows : TableRows} {sent received : List ℕ} (given : AcceptedRows rows sent received) where
  pub sent_whole : Whole rows sent
  sent_whole = let a = given.accepted in record { placed = rows_placed given; most = (accepted_size a).1; long = (accepted_lengths a).0 }

  pub received_whole : Whole rows received
  received_whole = let a = given.accepted in record { placed = rows_placed given; most = (accepted_size a).1; long = (accepted_lengths a).1 }

  pub received_rise : {j : ℕ} → IsProcess rows j → Rises rows.shape received j
  received_rise {j} there r p = received_rises given.accepted (j - 1) r p (omega (arith, there))

-- checkpoints that there are, one of each process
pub named_is_set : {v : View} {c : ℕ → ℕ} → ((j : ℕ) → j < v.n → (1 ≤ c j) × (c j ≤ v.count j)) → IsSet v c
named_is_set named = record { some = λ j k. (named j k).0; among = λ j k. (named j k).1 }

-- ---- the test of a set

module _ (t : Tables) (s : List Checkpoint) where
  pub test_refused : (tables_question t ≡ 0 → ⊥) → test_question t s ≡ tables_question t
  unfolding test_question
  test_refused h = then_refused (tables_question t) (λ _. ask 12 (all_there t.shape s)) h

  module _ (none : tables_question t ≡ 0) where
    pub test_missing : all_there t.shape s ≡ false → test_question t s ≡ 12
    unfolding test_question
    test_missing h =
        then_passed (tables_question t) (λ _. ask 12 (all_there t.shape s)) none ∙ ask_no 12 (all_there t.shape s) h

    pub test_passed : all_there t.shape s ≡ true → test_question t s ≡ 0
    unfolding test_question
    test_passed h =
        then_both (tables_question t) (λ _. ask 12 (all_there t.shape s)) none (ask_yes 12 (all_there t.shape s) h)

-- ---- the test of one checkpoint

module _ (t : Tables) (j r : ℕ) where
  pub column_tables : (tables_question t ≡ 0 → ⊥) → column_question t j r ≡ tables_question t
  unfolding column_question
  column_tables h = then_refused (tables_question t) _ h

  module _ (none : tables_question t ≡ 0) where
    pub column_unnamed : is_named t.shape.n j ≡ false → column_question t j r ≡ 10
    unfolding column_question
    column_unnamed h = rw (none, h)

    module _ (named : is_named t.shape.n j ≡ true) where
      pub column_missing : is_there true (count t.shape (j - 1)) r ≡ false → column_question t j r ≡ 12
      unfolding column_question
      column_missing h = rw (none, named, h)

      pub column_asked : is_there true (count t.shape (j - 1)) r ≡ true → column_question t j r ≡ 0
      unfolding column_question
      column_asked h = rw (none, named, h)

  -- what was asked, where none refuses
  pub record Asked : Type 0 where
    pub tables : tables_question t ≡ 0
    pub process : (1 ≤ j) × (j ≤ t.shape.n)
    pub checkpoint : (1 ≤ r) × (r ≤ count t.shape (j - 1))

  pub column_passed : column_question t j r ≡ 0 → Asked
  unfolding column_question
  column_passed e =
      let first = then_none (tables_question t) _ e in
      let rest = then_none (ask 10 (is_named t.shape.n j)) _ first.1 in
      let there = and_both (leb 1 r) (leb r (count t.shape (j - 1))) (asked_yes 11 _ rest.1) in
      record {
        tables = first.0;
        process = named_in t.shape.n j (asked_yes 9 (is_named t.shape.n j) rest.0);
        checkpoint = (leb-true 1 r there.0, leb-true r (count t.shape (j - 1)) there.1);
      }
