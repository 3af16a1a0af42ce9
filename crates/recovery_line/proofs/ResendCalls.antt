-- What the calls on lists of what to send again answer and leave, by what the code finds out.
use mathlib.Core.Path.{◌≡◌, refl, sym, ap, ◌∙◌}
use mathlib.Core.List.{List}
use Prim.Native.Nat.{ℕ}
use native.Mathlib.Omega.{arith}
use lib.ListN.{length}
use lib.Seq.{sets}
use borrow.Author.Tests.{eq-eqb, ne_eqb}
use Rattle.book.specs.Lent.{Tables, lent}
use Rattle.book.specs.declared.Shape.{Shape}
use Rattle.book.specs.InTurn.{ask}
use Rattle.restart.specs.declared.Resend.{Resend}
use Rattle.resend.specs.Questions.{list_question}
use Rattle.resend.specs.Calls.{bytes_to_resend, write_list_question, list_written, list_read}
use Rattle.words.specs.Words.{resend_length, wrong_length, is_long}
use Rattle.words.specs.Plain.{shape_in, resend_words}
use Rattle.words.proofs.Storing.{resend_long}
use Rattle.recovery_line.specs.Books.{shape_question}
use Rattle.recovery_line.specs.Resends.{write_resend_answer, write_resend_out, write_resend_length, read_resend_answer, read_resend_list}
use Rattle.recovery_line.proofs.Shells.{wrong, asked, kept, put, put_whole}
use Rattle.recovery_line.proofs.BytesWritten.{written_wrong, written_refused, written_done}

-- ---- write

module _ (shape sent received : List ℕ) (purpose : ℕ) (out : List ℕ) (before : ℕ) {q : ℕ} (same : q ≡ shape_question shape) where
  abbrev tables : Tables
  tables = lent (shape_in shape) sent received

  abbrev Written : ℕ → List ℕ → ℕ → Type 0
  Written r out' length' =
      (r ≡ write_resend_answer shape sent received purpose out)
      × ((out' ≡ write_resend_out shape sent received purpose out) × (length' ≡ write_resend_length shape sent received purpose out before))

  pub write_wrong : (q ≡ 0 → ⊥) → Written q out before
  unfolding write_resend_answer write_resend_out write_resend_length list_written
  write_wrong = written_wrong (write_list_question tables purpose out) (bytes_to_resend tables purpose) shape out before same

  module _ (none : q ≡ 0) {given : Shape} (given_is : given ≡ shape_in shape) {r : ℕ}
      (of_call : r ≡ write_list_question (lent given sent received) purpose out) {out' : List ℕ}
      (left : out' ≡ list_written (lent given sent received) purpose out)
    where
      question_of : r ≡ write_list_question tables purpose out
      question_of = of_call ∙ (λ t. write_list_question (lent (given_is t) sent received) purpose out)

      left_is : out' ≡ list_written tables purpose out
      left_is = left ∙ (λ t. list_written (lent (given_is t) sent received) purpose out)

      pub write_refused : (r ≡ 0 → ⊥) → Written r out' before
      unfolding write_resend_answer write_resend_out write_resend_length list_written
      write_refused =
          written_refused (write_list_question tables purpose out) (bytes_to_resend tables purpose) shape out before same none question_of left_is

      pub write_done : r ≡ 0 → {bytes : ℕ} → bytes ≡ length (bytes_to_resend (lent given sent received) purpose)
          → {length' : ℕ} → length' ≡ bytes → Written 0 out' length'
      unfolding write_resend_answer write_resend_out write_resend_length list_written
      write_done zeroed counted =
          written_done (write_list_question tables purpose out) (bytes_to_resend tables purpose) shape out before same none question_of left_is
          zeroed
          (counted ∙ (λ t. length (bytes_to_resend (lent (given_is t) sent received) purpose)))

-- ---- read

module _ (n : ℕ) (bytes resend : List ℕ) where
  abbrev Taken : ℕ → List ℕ → Type 0
  Taken r resend' = (r ≡ read_resend_answer n bytes resend) × (resend' ≡ read_resend_list n bytes resend)

  -- the slice has another length than its own
  pub read_wrong : (length resend ≡ resend_length → ⊥) → Taken wrong_length resend
  unfolding read_resend_answer read_resend_list
  read_wrong other =
      let same : wrong_length ≡ ask wrong_length (is_long resend_length resend) = rw (ne_eqb (length resend) resend_length other) in
      let some : (wrong_length ≡ 0 → ⊥) = λ none. absurd (omega arith) in
      let e = wrong same (λ _. list_question n bytes) some in
      (e, kept e resend _ some)

  module _ (long : length resend ≡ resend_length) {given : ℕ} (given_is : given ≡ n) {r : ℕ} (of_call : r ≡ list_question given bytes)
    where
      answered : r ≡ read_resend_answer n bytes resend
      unfolding read_resend_answer
      answered =
          let same : 0 ≡ ask wrong_length (is_long resend_length resend) = rw (eq-eqb (length resend) resend_length long) in
          asked same (λ _. list_question n bytes) refl (of_call ∙ ap (λ (k : ℕ). list_question k bytes) given_is)

      pub read_refused : (r ≡ 0 → ⊥) → Taken r resend
      unfolding read_resend_list
      read_refused some = (answered, kept answered resend _ some)

      pub read_taken : r ≡ 0 → {list : Resend} → list ≡ list_read given bytes → {resend' : List ℕ} → resend' ≡ sets resend 0 (resend_words list)
          → Taken 0 resend'
      unfolding read_resend_list
      read_taken zeroed {list} e put_there =
          let whole = put_whole (resend_words list) resend (resend_long list) long put_there in
          let list_is = e ∙ ap (λ (k : ℕ). list_read k bytes) given_is in
          (sym zeroed ∙ answered, put answered resend _ zeroed (whole ∙ ap resend_words list_is))
