-- The text of a book, from what reading it and searching it answer.
use mathlib.Core.Path.{◌≡◌, refl, sym, ap, ap₂, subst, ◌∙◌}
use mathlib.Core.List.{List}
use Prim.Native.Nat.{ℕ, zero, suc, ◌≤◌}
use native.Mathlib.Omega.{arith}
use borrow.Author.Tests.{le-leb}
use Rattle.std.specs.Prelude.{Result}
use Rattle.std.specs.Result.{IsErrAnd}
use Rattle.std.proofs.lemmas.Result.{err_from_is_err_and}
use Rattle.book.specs.Lent.{Tables, lent}
use Rattle.book.specs.declared.Question.{Question}
use Rattle.book.specs.declared.Shape.{Shape}
use Rattle.book.specs.declared.Process.{Process}
use Rattle.book.specs.Numbers.{number}
use Rattle.book.specs.Tables.{shape_of}
use Rattle.book.specs.Check.{tables_question}
use Rattle.book.specs.Read.{no_shape, book_read, read_question, shape_read, sent_read, received_read, tables_read}
use Rattle.book.proofs.Questions.{kept_passed}
use Rattle.book.proofs.Refusals.{number_positive}
use Rattle.round_trips.proofs.Theorems.{read_passes_check}
use Rattle.line_theory.proofs.Accepted.{passed_size}
use Rattle.searches.specs.declared.SearchEnd.{SearchEnd}
use Rattle.searches.specs.Search.{search_question, search_end}
use Rattle.line_text.specs.declared.growing.Text.{Text}
use Rattle.line_text.specs.Text.{found_text, refused_text}
use Rattle.line_text.specs.Parts.{Holds, Says}
use Rattle.line_text.specs.Line.{table_inside, search_text, text_by, line_text}

abbrev first : Process
first = record { 0 = 1 }

-- at the exit of a `?`: the question is handed on as it came
pub says_refusal : (r : Result Text Question) {Q : Question → Type 0} (e : Question) {bytes : List ℕ} → IsErrAnd r Q
    → ((f : Question) → Q f → f ≡ e) → refused_text (number e) ≡ bytes → Says r bytes
says_refusal r e failed same is =
    let p = err_from_is_err_and r failed in
    rw (p.1, same p.0 p.2) is

-- what a search answers makes its text
searched_text : (t : Tables) (found : SearchEnd) (text : Text) → found ≡ search_end t first 3
    → Holds text (found_text t.shape.n found.set found.newer found.rounds found.messages) → Holds text (search_text t)
searched_text t found text e h =
    subst (λ (f : SearchEnd). Holds text (found_text t.shape.n f.set f.newer f.rounds f.messages)) e h

-- a book that is read into zeros
module _ (bytes sent received : List ℕ) (zeros : sent ≡ table_inside) (zeros' : received ≡ table_inside) where
  asked : read_question bytes sent received ≡ read_question bytes table_inside table_inside
  asked = ap₂ (read_question bytes) zeros zeros'

  -- it is refused
  pub refused_line : (e : Question) → read_question bytes sent received ≡ number e → refused_text (number e) ≡ line_text bytes
  unfolding line_text
  refused_line e fails = go (read_question bytes table_inside table_inside) (number e) (number_positive e) (sym asked ∙ fails)
    where
      go : (q k : ℕ) → 1 ≤ k → q ≡ k → refused_text k ≡ text_by q bytes
      go zero k some is = absurd (omega arith)
      go (suc q) k some is = ap refused_text (sym is)

  -- it is accepted
  module _ (none : read_question bytes sent received ≡ 0) {shape : Shape} (taken : shape ≡ shape_of (book_read bytes)) where
    is_shape : shape ≡ shape_read bytes sent received
    unfolding shape_read
    is_shape = taken ∙ sym (kept_passed (read_question bytes sent received) no_shape (shape_of (book_read bytes)) none)

    passes : tables_question (tables_read bytes sent received) ≡ 0
    passes = read_passes_check bytes sent received none

    pub few_read : shape.n ≤ 16
    few_read = rw is_shape (passed_size (tables_read bytes sent received) passes).1

    module _ {sent' received' : List ℕ} (is_sent : sent' ≡ sent_read bytes sent received) (is_received : received' ≡ received_read bytes sent received)
      where
        tables_are : lent shape sent' received' ≡ tables_read bytes sent received
        tables_are = λ t. lent (is_shape t) (is_sent t) (is_received t)

        -- then the search is, too
        pub search_passes : search_question (lent shape sent' received') first 3 ≡ 0
        unfolding search_question
        search_passes =
            let size = passed_size (tables_read bytes sent received) passes in
            let of_read : search_question (tables_read bytes sent received) first 3 ≡ 0 =
            rw (passes, le-leb 1 (tables_read bytes sent received).shape.n size.0) refl in
            ap (λ (t : Tables). search_question t first 3) tables_are ∙ of_read

        pub accepted_line : (found : SearchEnd) (text : Text) → found ≡ search_end (lent shape sent' received') first 3
            → Holds text (found_text shape.n found.set found.newer found.rounds found.messages) → Holds text (line_text bytes)
        unfolding line_text
        accepted_line found text ends h =
            let is : search_text (lent shape sent' received') ≡ text_by (read_question bytes table_inside table_inside) bytes =
            rw (← asked, none, is_shape, is_sent, is_received, zeros, zeros') refl in
            subst (λ (l : List ℕ). Holds text l) is (searched_text (lent shape sent' received') found text ends h)
