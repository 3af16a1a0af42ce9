-- The book's first number.
use Rattle.std.specs.Prelude.{Some, None, Result, Err}
use mathlib.Core.Path.{◌≡◌, refl, sym, ap, ◌∙◌}
use mathlib.Core.List.{List, ◌∷◌}
use Prim.Native.Nat.{ℕ, ◌≤◌, ◌<◌}
use native.Mathlib.Omega.{arith}
use lib.ListN.{length}
use lib.Dec.{eqb}
use Rattle.varint.specs.Number.{read_number}
use Rattle.varint.specs.Sequence.{Numbers}
use Rattle.varint.proofs.Sequence.{numbers_none, numbers_more}
use Rattle.book.specs.declared.Question.{Question}
use Rattle.book.specs.declared.Question.TheVariants.{Number, Processes}
use Rattle.book.specs.declared.Shape.{Shape}
use Rattle.book.specs.Bounds.{groups, largest, mark}
use Rattle.book.specs.InTurn.{answer_with}
use Rattle.book.specs.Numbers.{number}
use Rattle.book.specs.Layout.{book_in}
use Rattle.book.specs.Tables.{shape_of, sent_table, received_table}
use Rattle.book.specs.Questions.{size_question}
use Rattle.book.specs.Along.{processes_question, book_question}
use Rattle.book.proofs.Counts.{size_none, size_many, size_given_lem}
use Rattle.book.proofs.Questions.{then_passed, then_refused}
use Rattle.book.specs.Read.{numbers_from}
use Rattle.reader.specs.Parts.{whole_from, ProcessesTaken, BookTaken}
use Rattle.reader.proofs.Answers.{taken_refused}

module _ (s sent received : List ℕ) where
  refused : (e : Question) → number e ≡ book_question mark (whole_from s 0) (numbers_from s 0).found → BookTaken s (Err e) sent received
  refused e is = taken_refused _ _ _ _ sent received (Err e) e refl is

  pub book_short : read_number groups largest s 0 ≡ None → BookTaken s (Err Number) sent received
  unfolding book_question
  book_short none =
      refused Number
      (sym (ap (λ (ns : Numbers). book_question mark (eqb ns.stop (length s)) ns.found) (numbers_none groups largest s 0 none)))

  module _ (n next : ℕ) (some : read_number groups largest s 0 ≡ Some (n, next)) where
    go : numbers_from s 0 ≡ record { found = n ∷ (numbers_from s next).found; stop = (numbers_from s next).stop }
    go = numbers_more groups largest s 0 n next some

    turn : book_question mark (whole_from s 0) (numbers_from s 0).found
        ≡ book_question mark (whole_from s next) (n ∷ (numbers_from s next).found)
    turn = ap (λ (ns : Numbers). book_question mark (eqb ns.stop (length s)) ns.found) go

    four : size_question n ≡ 4 → BookTaken s (Err Processes) sent received
    unfolding book_question
    four e =
        refused Processes
        (sym
        (turn ∙ then_refused (size_question n) (λ _. processes_question mark n n 0 (whole_from s next) (numbers_from s next).found) (λ z. omega (arith, sym e ∙ z)) ∙ e))

    pub book_none : n < 1 → BookTaken s (Err Processes) sent received
    book_none h = four (size_none n h)

    pub book_many : 1 ≤ n → 16 < n → BookTaken s (Err Processes) sent received
    book_many h k = four (size_many n h k)

    pub book_taken : (r : Result Shape Question) → 1 ≤ n → n ≤ 16 → ProcessesTaken n s next r sent received → BookTaken s r sent received
    unfolding book_question
    book_taken r h k did =
        let asked = turn ∙ then_passed (size_question n)
        (λ _. processes_question mark n n 0 (whole_from s next) (numbers_from s next).found) (size_given_lem n h k) in
        record {
          answered = did.answered
              ∙ sym (ap (λ (q : ℕ). answer_with q (shape_of (book_in (numbers_from s 0).found))) asked
              ∙ ap (λ (ns : Numbers). answer_with (processes_question mark n n 0 (whole_from s next) (numbers_from s next).found) (shape_of (book_in ns.found))) go);
          sent_read = λ z. did.sent_read (sym asked ∙ z) ∙ sym (ap (λ (ns : Numbers). sent_table (book_in ns.found)) go);
          received_read = λ z. did.received_read (sym asked ∙ z) ∙ sym (ap (λ (ns : Numbers). received_table (book_in ns.found)) go);
        }
