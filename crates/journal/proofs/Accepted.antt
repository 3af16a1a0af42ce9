-- What a journal that no question refuses says of its bytes, its tables, n and its events.
use Rattle.std.specs.Prelude.{Option, Some, None}
use mathlib.Core.Path.{◌≡◌, refl, sym, ap, ap₂, subst, ◌∙◌}
use mathlib.Core.Bool.{Bool, true}
use mathlib.Core.List.{List, [], ◌∷◌, ◌++◌, append_assoc, append-nil}
use Prim.Native.Nat.{ℕ, zero, suc, ◌≤◌}
use native.Mathlib.Omega.{arith}
use borrow.Author.Tests.{leb-true}
use lib.ListN.{length, drop, get_or}
use lib.Dec.{leb}
use Rattle.lists.specs.Over.{sum_to}
use Rattle.varint.specs.Number.{read_number}
use Rattle.varint.specs.Sequence.{Numbers}
use Rattle.varint.proofs.Sequence.{numbers_none}
use Rattle.book.specs.Bounds.{most_processes, most_checkpoints, most_bytes, entries}
use Rattle.book.specs.InTurn.{◌then◌}
use Rattle.book.specs.Questions.{bytes_question, length_question, size_question}
use Rattle.book.proofs.Questions.{then_none, asked_yes}
use Rattle.book.proofs.Counts.{lengths_taken, size_taken}
use Rattle.journal.specs.declared.Event.{Event}
use Rattle.journal.specs.Bounds.{journal_groups, journal_largest}
use Rattle.journal.specs.Calls.{numbers_logged, numbers_end, leading_n, events_logged, journal_question}
use Rattle.journal.specs.Counting.{how_many}
use Rattle.journal.specs.Events.{events_in}
use Rattle.journal.specs.Parts.{events_from}
use Rattle.journal.specs.Questions.{checkpoints_in_all, event_question, events_question, journal_numbers_question}
use Rattle.journal.proofs.Passed.{Each, Passes, Differs, event_passes, whole_passed, each_passes, each_differs}
use Rattle.journal.proofs.Reading.{journal_begins}

-- ---- how many checkpoints there are

-- from the start one of each process
pub in_all_first : (n : ℕ) → n ≡ checkpoints_in_all n []
unfolding sum_to how_many
in_all_first zero = refl
in_all_first (suc n) = omega (arith, in_all_first n)

-- no event takes the checkpoints past their bound
checkpoints_few : (n : ℕ) (before es : List Event) (whole : Bool) → checkpoints_in_all n before ≤ most_checkpoints
    → events_question n before es whole ≡ 0 → checkpoints_in_all n (before ++ es) ≤ most_checkpoints
unfolding events_question
checkpoints_few n before [] whole h q = rw (append-nil before) h
checkpoints_few n before (e ∷ es) whole h q =
    let b = then_none (event_question n before e) (λ _. events_question n (before ++ e ∷ []) es whole) q in
    subst (λ (l : List Event). checkpoints_in_all n l ≤ most_checkpoints) (append_assoc before (e ∷ []) es)
    (checkpoints_few n (before ++ e ∷ []) es whole (event_passes n before e b.0).few b.1)

-- what is known of n and the events of an accepted journal
pub record AcceptedEvents (n : ℕ) (es : List Event) : Type 0 where
  pub some : 1 ≤ n
  pub few : n ≤ most_processes
  pub in_all : checkpoints_in_all n es ≤ most_checkpoints
  pub passes : Each (λ a e. Passes n a e) es
  pub differ : Each (λ a e. Differs e) es

-- bytes, tables and numbers as asked
pub record JournalPassed (s sent received : List ℕ) : Type 0 where
  pub short : length s ≤ most_bytes
  pub sent_long : length sent ≡ entries
  pub received_long : length received ≡ entries
  pub numbers : journal_numbers_question (numbers_end s 0) (numbers_logged s 0).found ≡ 0

module _ (s : List ℕ) where
  pub journal_passed : (sent received : List ℕ) → journal_question s sent received ≡ 0 → JournalPassed s sent received
  unfolding journal_question
  journal_passed sent received h =
      let numbers : Unit {0} → ℕ = λ _. journal_numbers_question (numbers_end s 0) (numbers_logged s 0).found in
      let a = then_none (bytes_question s) (λ _. length_question sent received then numbers) h in
      let b = then_none (length_question sent received) numbers a.1 in
      let long = lengths_taken sent received b.0 in
      record {
        short = leb-true (length s) most_bytes (asked_yes 0 (leb (length s) most_bytes) a.0);
        sent_long = long.0;
        received_long = long.1;
        numbers = b.1;
      }

  module _ (passed : journal_numbers_question (numbers_end s 0) (numbers_logged s 0).found ≡ 0) where
    -- a number leads it
    pub journal_leads : read_number journal_groups journal_largest s 0 ≡ None → ⊥
    unfolding journal_numbers_question
    journal_leads e =
        let none : (numbers_logged s 0).found ≡ [] = ap (λ (ns : Numbers). ns.found) (numbers_none journal_groups journal_largest s 0 e) in
        let three : journal_numbers_question (numbers_end s 0) [] ≡ 0 = rw none at passed in
        absurd (omega (arith, three))

    module _ (n at : ℕ) (leads : read_number journal_groups journal_largest s 0 ≡ Some (n, at)) where
      found : (numbers_logged s 0).found ≡ n ∷ (numbers_logged s at).found
      found = (journal_begins s n at leads).0

      pub leading_is : leading_n s ≡ n
      leading_is = ap (λ (vs : List ℕ). get_or vs 0 0) found

      pub events_are : events_logged s ≡ (events_from s at).found
      events_are =
          ap₂ (λ (ended : Bool) (vs : List ℕ). (events_in ended (drop 1 vs)).found) (journal_begins s n at leads).1 found

      asked : (size_question n ≡ 0) × (events_question n [] (events_from s at).found (events_from s at).whole ≡ 0)
      unfolding journal_numbers_question
      asked =
          let both = ap₂ journal_numbers_question (journal_begins s n at leads).1 found in
          then_none (size_question n) (λ _. events_question n [] (events_from s at).found (events_from s at).whole) (sym both ∙ passed)

      pub journal_whole : (events_from s at).whole ≡ true
      journal_whole = whole_passed n [] (events_from s at).found (events_from s at).whole asked.1

      accepted_from : AcceptedEvents n (events_from s at).found
      accepted_from =
          let es : List Event = (events_from s at).found in
          let size = size_taken n asked.0 in
          record {
            some = size.0;
            few = size.1;
            in_all = checkpoints_few n [] es (events_from s at).whole (omega (arith, in_all_first n, size.1)) asked.1;
            passes = each_passes n [] es (events_from s at).whole asked.1;
            differ = each_differs (numbers_end s at) (numbers_logged s at).found;
          }

    pub journal_accepted : AcceptedEvents (leading_n s) (events_logged s)
    journal_accepted = go (read_number journal_groups journal_largest s 0) refl
      where
        go : (r : Option (ℕ × ℕ)) → read_number journal_groups journal_largest s 0 ≡ r → AcceptedEvents (leading_n s) (events_logged s)
        go None e = absurd (journal_leads e)
        go (Some (n, at)) e = rw (leading_is n at e, events_are n at e) (accepted_from n at e)
