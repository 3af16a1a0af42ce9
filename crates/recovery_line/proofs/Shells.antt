-- What every exported call has in common. The question of the lengths comes first, then those of the call inside; an answer that is
-- not 0 leaves all that was lent as it was, and 0 leaves the results.
use mathlib.Core.Path.{◌≡◌, sym, ◌∙◌}
use mathlib.Core.Bool.{◌&&◌}
use mathlib.Core.List.{List}
use Prim.Native.Nat.{ℕ, zero, suc}
use native.Mathlib.Omega.{arith}
use lib.ListN.{length, get_or}
use lib.Seq.{sets}
use borrow.Author.Tests.{eqb-true}
use Rattle.std.specs.Prelude.{Result, Err}
use Rattle.book.specs.declared.Question.{Question}
use Rattle.book.specs.declared.Checkpoint.{Checkpoint}
use Rattle.book.specs.InTurn.{◌then◌, ask, answer_with, unless_refused}
use Rattle.book.specs.Numbers.{number, by_number}
use Rattle.book.specs.Bounds.{most_processes}
use Rattle.book.proofs.Questions.{then_passed, then_refused, asked_yes, kept_passed, kept_refused}
use Rattle.book.proofs.Refusals.{refused_by, is_refused}
use Rattle.lists.proofs.Tests.{and_both}
use Rattle.lists.proofs.Over.{length_tab}
use Rattle.consistency.specs.Set.{chosen}
use Rattle.words.specs.Words.{wrong_length, is_long}
use Rattle.words.specs.Plain.{number_words, set_words}
use Rattle.words.proofs.Storing.{sets_all}

-- ---- the lengths, once their question is answered by 0

module _ (k : ℕ) (u : List ℕ) {q : ℕ} where
  pub one_long : q ≡ ask wrong_length (is_long k u) → q ≡ 0 → length u ≡ k
  one_long e none = eqb-true (length u) k (asked_yes 99 (is_long k u) (sym e ∙ none))

module _ (k m : ℕ) (u w : List ℕ) {q : ℕ} where
  pub two_long : q ≡ ask wrong_length (is_long k u && is_long m w) → q ≡ 0 → (length u ≡ k) × (length w ≡ m)
  two_long e none =
      let both = and_both (is_long k u) (is_long m w) (asked_yes 99 (is_long k u && is_long m w) (sym e ∙ none)) in
      (eqb-true (length u) k both.0, eqb-true (length w) m both.1)

module _ (k m n : ℕ) (u w x : List ℕ) {q : ℕ} where
  pub three_long : q ≡ ask wrong_length (is_long k u && (is_long m w && is_long n x)) → q ≡ 0
      → (length u ≡ k) × ((length w ≡ m) × (length x ≡ n))
  three_long e none =
      let first = and_both (is_long k u) (is_long m w && is_long n x) (asked_yes 99 (is_long k u && (is_long m w && is_long n x)) (sym e ∙ none)) in
      let rest = and_both (is_long m w) (is_long n x) first.1 in
      (eqb-true (length u) k first.0, (eqb-true (length w) m rest.0, eqb-true (length x) n rest.1))

-- ---- the answer

module _ {q long : ℕ} (same : q ≡ long) (inside : Unit {0} → ℕ) where
  -- a length is wrong
  pub wrong : (q ≡ 0 → ⊥) → q ≡ (long then inside)
  wrong some = same ∙ sym (then_refused long inside (λ none. some (same ∙ none)))

  -- none is: the question of the call inside
  pub asked : q ≡ 0 → {r : ℕ} → r ≡ inside tt → r ≡ (long then inside)
  asked none e = e ∙ sym (then_passed long inside (sym same ∙ none))

-- the number of the question that refuses the call inside
pub question_is : {A : Type 0} {answer : Result A Question} {e : Question} (q : ℕ) (v : A) {r : ℕ} → by_number answer ≡ answer_with q v
    → answer ≡ Err e → r ≡ number e → (r ≡ q) × (r ≡ 0 → ⊥)
question_is q v answered is numbered =
    let same = numbered ∙ sym (refused_by q v answered is) in
    (same, λ none. is_refused q v answered is (sym same ∙ none))

-- ---- what was lent

module _ {A : Type 0} {r answer : ℕ} (e : r ≡ answer) (before result : A) where
  -- refused, it is as it was
  pub kept : (r ≡ 0 → ⊥) → before ≡ unless_refused answer before result
  kept some = sym (kept_refused answer before result (λ none. some (e ∙ none)))

  -- accepted, it is the result
  pub put : r ≡ 0 → {after : A} → after ≡ result → after ≡ unless_refused answer before result
  put none f = f ∙ sym (kept_passed answer before result (sym e ∙ none))

-- the call inside looked at the question already
pub through : {A : Type 0} {r : ℕ} (answer q : ℕ) (before result : A) → r ≡ answer → r ≡ q → {after : A} → after ≡ unless_refused q before result
    → after ≡ unless_refused answer before (unless_refused q before result)
through zero q before result e f put = put
through (suc answer) zero before result e f put = absurd (omega arith)
through (suc answer) (suc q) before result e f put = put

-- ---- words put to a whole slice

pub put_whole : (vs l : List ℕ) {k : ℕ} {l' : List ℕ} → length vs ≡ k → length l ≡ k → l' ≡ sets l 0 vs → l' ≡ vs
put_whole vs l e f put_there = sets_all vs l (e ∙ sym f) put_there

pub set_put : (l : List ℕ) → length l ≡ most_processes → (set : List Checkpoint) {l' : List ℕ} → l' ≡ sets l 0 (set_words set) → l' ≡ set_words set
set_put l long set put_there = put_whole (set_words set) l (length_tab most_processes (chosen set)) long put_there

pub numbers_put : (l : List ℕ) → length l ≡ most_processes → (numbers : List ℕ) {l' : List ℕ} → l' ≡ sets l 0 (number_words numbers)
    → l' ≡ number_words numbers
numbers_put l long numbers put_there = put_whole (number_words numbers) l (length_tab most_processes (λ i. get_or numbers i 0)) long put_there
