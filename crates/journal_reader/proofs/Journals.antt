-- A whole journal: questions 1 and 2, those of the leading n, and those of its events.
use Rattle.std.specs.Prelude.{Some, None, Result}
use mathlib.Core.Path.{◌≡◌, refl, sym, ap, ap₂, ◌∙◌}
use mathlib.Core.Bool.{Bool}
use mathlib.Core.List.{List, [], ◌∷◌}
use Prim.Native.Nat.{ℕ, ◌≤◌, ◌<◌}
use native.Mathlib.Omega.{arith}
use borrow.Author.Tests.{le-leb, lt-leb, ne_eqb}
use lib.ListN.{length, drop, get_or}
use lib.Dec.{eqb}
use Rattle.lists.proofs.Tests.{and_first, and_second}
use Rattle.varint.specs.Number.{read_number}
use Rattle.varint.specs.Sequence.{Numbers}
use Rattle.varint.proofs.Sequence.{numbers_none}
use Rattle.book.specs.declared.Question.{Question}
use Rattle.book.specs.declared.Shape.{Shape}
use Rattle.book.specs.Bounds.{most_bytes, entries}
use Rattle.book.specs.Tables.{shape_of}
use Rattle.book.specs.InTurn.{◌then◌, answer_with}
use Rattle.book.specs.Numbers.{by_number}
use Rattle.book.specs.Questions.{bytes_question, length_question, size_question}
use Rattle.book.proofs.Counts.{lengths_given}
use Rattle.book.proofs.Questions.{then_passed, then_refused, ask_no}
use Rattle.journal.specs.Bounds.{journal_groups, journal_largest}
use Rattle.journal.specs.Events.{events_in}
use Rattle.journal.specs.Questions.{events_question, journal_numbers_question}
use Rattle.journal.specs.Built.{book_built}
use Rattle.journal.specs.Calls.{numbers_logged, numbers_end, journal_question, journal_book}
use Rattle.journal.specs.Parts.{events_from}
use Rattle.journal.proofs.Reading.{journal_begins}
use Rattle.journal_reader.specs.Asking.{EventsTaken, JournalTaken}

-- ---- the leading n

-- what is answered to numbers, of which n comes first
abbrev answer_of : Bool → List ℕ → Result Shape ℕ
answer_of ended vs =
    answer_with (journal_numbers_question ended vs) (shape_of (book_built (get_or vs 0 0) (events_in ended (drop 1 vs)).found))

question_begins : (ended : Bool) (n : ℕ) (vs : List ℕ)
    → journal_numbers_question ended (n ∷ vs)
    ≡ (size_question n then λ _. events_question n [] (events_in ended vs).found (events_in ended vs).whole)
unfolding journal_numbers_question
question_begins ended n vs = refl

no_numbers : (ended : Bool) → journal_numbers_question ended [] ≡ 3
unfolding journal_numbers_question
no_numbers ended = refl

module _ (s : List ℕ) where
  -- what is asked along the numbers
  abbrev along_numbers : ℕ
  along_numbers = journal_numbers_question (numbers_end s 0) (numbers_logged s 0).found

  pub journal_unread : read_number journal_groups journal_largest s 0 ≡ None → along_numbers ≡ 3
  journal_unread e =
      let none : (numbers_logged s 0).found ≡ [] = ap (λ (ns : Numbers). ns.found) (numbers_none journal_groups journal_largest s 0 e) in
      ap (journal_numbers_question (numbers_end s 0)) none ∙ no_numbers (numbers_end s 0)

  module _ (n at : ℕ) (read : read_number journal_groups journal_largest s 0 ≡ Some (n, at)) where
    begins : answer_of (numbers_end s 0) (numbers_logged s 0).found ≡ answer_of (numbers_end s at) (n ∷ (numbers_logged s at).found)
    begins = let is = journal_begins s n at read in ap₂ answer_of is.1 is.0

    along : journal_numbers_question (numbers_end s at) (n ∷ (numbers_logged s at).found)
        ≡ (size_question n then λ _. events_question n [] (events_from s at).found (events_from s at).whole)
    along = question_begins (numbers_end s at) n (numbers_logged s at).found

    -- n fails question 4
    pub journal_size : size_question n ≡ 4 → along_numbers ≡ 4
    journal_size four =
        let is = journal_begins s n at read in
        ap₂ journal_numbers_question is.1 is.0 ∙ along ∙ then_refused (size_question n) _ (λ z. absurd (omega arith)) ∙ four

    -- it does not, and the events are taken
    pub journal_taken : size_question n ≡ 0 → (r : Result Shape Question) → EventsTaken n s at r → JournalTaken s r
    journal_taken none r did =
        did
        ∙ ap (λ (q : ℕ). answer_with q (shape_of (book_built n (events_from s at).found))) (sym (along ∙ then_passed (size_question n) _ none))
        ∙ sym begins

-- ---- questions 1 and 2

module _ (bytes sent received : List ℕ) where
  parts : journal_question bytes sent received ≡ (bytes_question bytes then λ _. length_question sent received then λ _. along_numbers bytes)
  unfolding journal_question
  parts = refl

  pub bytes_refused : most_bytes < length bytes → journal_question bytes sent received ≡ 1
  bytes_refused h =
      let one : bytes_question bytes ≡ 1 = rw (lt-leb (length bytes) most_bytes h) in
      parts ∙ then_refused (bytes_question bytes) _ (λ z. absurd (omega arith)) ∙ one

  module _ (few : length bytes ≤ most_bytes) where
    one_passed : journal_question bytes sent received ≡ (length_question sent received then λ _. along_numbers bytes)
    one_passed = parts ∙ then_passed (bytes_question bytes) _ (rw (le-leb (length bytes) most_bytes few))

    tables_refused : length_question sent received ≡ 2 → journal_question bytes sent received ≡ 2
    tables_refused two = one_passed ∙ then_refused (length_question sent received) _ (λ z. absurd (omega arith)) ∙ two

    pub sent_refused : (length sent ≡ entries → ⊥) → journal_question bytes sent received ≡ 2
    sent_refused ne = tables_refused (ask_no 2 _ (and_first _ _ (ne_eqb (length sent) entries ne)))

    pub received_refused : (length received ≡ entries → ⊥) → journal_question bytes sent received ≡ 2
    received_refused ne = tables_refused (ask_no 2 _ (and_second (eqb (length sent) entries) _ (ne_eqb (length received) entries ne)))

    pub journal_answered : length sent ≡ entries → length received ≡ entries → (r : Result Shape Question) → JournalTaken bytes r
        → by_number r ≡ answer_with (journal_question bytes sent received) (shape_of (journal_book bytes))
    journal_answered h k r did =
        did
        ∙ ap (λ (q : ℕ). answer_with q (shape_of (journal_book bytes)))
        (sym (one_passed ∙ then_passed (length_question sent received) _ (lengths_given sent received h k)))
