-- The questions of tables in their order: what each answer tells of the whole.
use mathlib.Core.Path.{◌≡◌, refl, sym, ◌∙◌}
use mathlib.Core.Bool.{Bool, true, false}
use Prim.Native.Nat.{ℕ, ◌≤◌, ◌<◌}
use native.Mathlib.Omega.{arith}
use borrow.Author.Tests.{le-leb, lt-leb}
use lib.ListN.{take}
use Rattle.book.specs.Lent.{Tables}
use Rattle.book.specs.declared.Shape.{Shape}
use Rattle.book.specs.Bounds.{mark}
use Rattle.book.specs.Tables.{processes_of}
use Rattle.book.specs.View.{sum}
use Rattle.book.specs.Check.{counts_question, rows_question, contents_question, tables_question}
use Rattle.book.specs.InTurn.{◌then◌, ask}
use Rattle.book.specs.Questions.{length_question, unused_zero}
use Rattle.book.proofs.Questions.{ask_yes, ask_no}
use Rattle.tables.specs.Sound.{Passed}
use Rattle.tables.proofs.Answers.{answer_fails, answer_passes}
use Rattle.book.proofs.Counts.{counts_few}

-- question 4 passes
pub record Sized (n : ℕ) : Type 0 where
  pub one : 1 ≤ n
  pub most : n ≤ 16

-- after question 5 the rows of all processes lie in a table
pub counts_fit : (shape : Shape) (a : ℕ) → a ≡ counts_question 0 (take shape.n shape.counts) → a ≡ 0 → sum (take shape.n shape.counts) ≤ 256
counts_fit shape a of_counts p =
    let h = counts_few 0 (take shape.n shape.counts) (omega arith) (sym of_counts ∙ p) in omega arith

module _ (t : Tables) where
  -- question 2, and then the others
  module _ (a : ℕ) (of_lengths : a ≡ length_question t.sent t.received) where
    pub lengths_fail : (a ≡ 0 → ⊥) → a ≡ tables_question t
    unfolding tables_question
    lengths_fail f = answer_fails _ a (length_question t.sent t.received) (λ _. contents_question t) refl of_lengths f

    pub lengths_pass : a ≡ 0 → contents_question t ≡ tables_question t
    unfolding tables_question
    lengths_pass z = sym (answer_passes _ a (length_question t.sent t.received) (λ _. contents_question t) refl of_lengths z)

  pub too_few : t.shape.n < 1 → 4 ≡ contents_question t
  unfolding contents_question
  too_few h = rw (lt-leb 1 t.shape.n h)

  pub too_many : 1 ≤ t.shape.n → 16 < t.shape.n → 4 ≡ contents_question t
  unfolding contents_question
  too_many l h = rw (le-leb 1 t.shape.n l, lt-leb t.shape.n 16 h)

  counts : ℕ
  counts = counts_question 0 (take t.shape.n t.shape.counts)

  rows : ℕ
  rows = rows_question mark t.shape.n (processes_of t.shape.n 0 (take t.shape.n t.shape.counts) t.sent t.received)

  unused : ℕ
  unused = ask 9 (unused_zero t)

  module _ (z : Sized t.shape.n) where
    sized : contents_question t ≡ (counts then λ _. rows then λ _. unused)
    unfolding contents_question counts rows unused
    sized = rw (le-leb 1 t.shape.n z.one, le-leb t.shape.n 16 z.most)

    module _ (a : ℕ) (of_counts : a ≡ counts_question 0 (take t.shape.n t.shape.counts)) where
      pub counts_fail : (a ≡ 0 → ⊥) → a ≡ contents_question t
      unfolding counts
      counts_fail f = answer_fails _ a counts (λ _. rows then λ _. unused) sized of_counts f

      module _ (p : a ≡ 0) where
        counted : contents_question t ≡ (rows then λ _. unused)
        unfolding counts
        counted = answer_passes _ a counts (λ _. rows then λ _. unused) sized of_counts p

        module _ (b : ℕ) (of_rows : b ≡ rows_question mark t.shape.n (processes_of t.shape.n 0 (take t.shape.n t.shape.counts) t.sent t.received)) where
          pub rows_fail : (b ≡ 0 → ⊥) → b ≡ contents_question t
          unfolding rows
          rows_fail f = answer_fails _ b rows (λ _. unused) counted of_rows f

          module _ (q : b ≡ 0) (u : Bool) (of_unused : u ≡ unused_zero t) where
            asked : contents_question t ≡ ask 9 u
            unfolding rows unused
            asked = rw of_unused (answer_passes _ b rows (λ _. unused) counted of_rows q)

            pub unused_fails : u ≡ false → 9 ≡ contents_question t
            unused_fails f = sym (asked ∙ ask_no 9 u f)

            pub all_passed : u ≡ true → 0 ≡ contents_question t
            all_passed f = sym (asked ∙ ask_yes 9 u f)

        pub all_sound : Passed t → 0 ≡ contents_question t
        all_sound s = all_passed 0 (sym s.rows) refl true (sym s.unused) refl
