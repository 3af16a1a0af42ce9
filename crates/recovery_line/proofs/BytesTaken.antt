-- What a call that takes bytes into the tables answers and leaves, by what the code finds out: a book's, or a journal's.
use mathlib.Core.Path.{◌≡◌, sym, ap, ◌∙◌}
use mathlib.Core.List.{List}
use Prim.Native.Nat.{ℕ}
use Rattle.book.specs.declared.Shape.{Shape}
use Rattle.book.specs.InTurn.{◌then◌, unless_refused}
use Rattle.book.specs.Read.{no_shape}
use Rattle.book.proofs.Questions.{kept_passed}
use Rattle.words.specs.Plain.{shape_words}
use Rattle.recovery_line.specs.Books.{shape_question}
use Rattle.recovery_line.proofs.Shells.{wrong, asked, kept, put, through}

-- the question of the call inside, and the shape and the tables of the book that it takes
module _ (question : ℕ) (shaped : Shape) (full full' shape sent received : List ℕ) {q : ℕ} (same : q ≡ shape_question shape) where
  abbrev whole : ℕ
  whole = shape_question shape then λ _. question

  -- the answer, and what is left in each slice
  abbrev Taken : ℕ → List ℕ → List ℕ → List ℕ → Type 0
  Taken r shape' sent' received' =
      (r ≡ whole)
      × ((shape' ≡ unless_refused whole shape (shape_words (unless_refused question no_shape shaped)))
      × ((sent' ≡ unless_refused whole sent (unless_refused question sent full))
      × (received' ≡ unless_refused whole received (unless_refused question received full'))))

  pub taken_wrong : (q ≡ 0 → ⊥) → Taken q shape sent received
  taken_wrong some =
      let e = wrong same (λ _. question) some in
      (e, (kept e shape _ some, (kept e sent _ some, kept e received _ some)))

  module _ (none : q ≡ 0) {r : ℕ} (of_call : r ≡ question) {sent' received' : List ℕ} (left : sent' ≡ unless_refused question sent full) (left' : received' ≡ unless_refused question received full')
    where
      answered : r ≡ whole
      answered = asked same (λ _. question) none of_call

      tables : (sent' ≡ unless_refused whole sent (unless_refused question sent full))
          × (received' ≡ unless_refused whole received (unless_refused question received full'))
      tables = (
        through whole question sent full answered of_call left,
        through whole question received full' answered of_call left',
      )

      pub taken_refused : (r ≡ 0 → ⊥) → Taken r shape sent' received'
      taken_refused some = (answered, (kept answered shape _ some, tables))

      pub taken_whole : r ≡ 0 → {taken : Shape} → taken ≡ shaped → {shape' : List ℕ} → shape' ≡ shape_words taken
          → Taken 0 shape' sent' received'
      taken_whole zeroed e put_there =
          (sym zeroed ∙ answered, (put answered shape _ zeroed (put_there ∙ ap shape_words (e ∙ sym (kept_passed question no_shape shaped (sym of_call ∙ zeroed)))), tables))
