-- What a call that writes bytes to the start of a buffer answers and leaves, by what the code finds out: a book's, or a list's.
use mathlib.Core.Path.{◌≡◌, sym, ◌∙◌}
use mathlib.Core.List.{List}
use Prim.Native.Nat.{ℕ}
use lib.ListN.{length}
use lib.Seq.{sets}
use Rattle.book.specs.InTurn.{◌then◌, unless_refused}
use Rattle.recovery_line.specs.Books.{shape_question}
use Rattle.recovery_line.proofs.Shells.{wrong, asked, kept, put, through}

-- the question of the call inside, and the bytes that it writes
module _ (question : ℕ) (written shape out : List ℕ) (before : ℕ) {q : ℕ} (same : q ≡ shape_question shape) where
  abbrev whole : ℕ
  whole = shape_question shape then λ _. question

  -- the answer, and what is left in the buffer and in the length
  abbrev Written : ℕ → List ℕ → ℕ → Type 0
  Written r out' length' =
      (r ≡ whole)
      × ((out' ≡ unless_refused whole out (unless_refused question out (sets out 0 written)))
      × (length' ≡ unless_refused whole before (length written)))

  pub written_wrong : (q ≡ 0 → ⊥) → Written q out before
  written_wrong some =
      let e = wrong same (λ _. question) some in
      (e, (kept e out _ some, kept e before _ some))

  module _ (none : q ≡ 0) {r : ℕ} (of_call : r ≡ question) {out' : List ℕ} (left : out' ≡ unless_refused question out (sets out 0 written))
    where
      answered : r ≡ whole
      answered = asked same (λ _. question) none of_call

      buffer : out' ≡ unless_refused whole out (unless_refused question out (sets out 0 written))
      buffer = through whole question out (sets out 0 written) answered of_call left

      pub written_refused : (r ≡ 0 → ⊥) → Written r out' before
      written_refused some = (answered, (buffer, kept answered before _ some))

      pub written_done : r ≡ 0 → {bytes : ℕ} → bytes ≡ length written → {length' : ℕ} → length' ≡ bytes → Written 0 out' length'
      written_done zeroed counted put_there =
          (sym zeroed ∙ answered, (buffer, put answered before _ zeroed (put_there ∙ counted)))
