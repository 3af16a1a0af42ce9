-- A session: there and back.
use mathlib.Core.Path.{◌≡◌, refl, sym, subst, ◌∙◌}
use mathlib.Core.Bool.{Bool, true, ◌&&◌}
use mathlib.Core.List.{List, [], ◌∷◌, ◌++◌}
use Prim.Native.Nat.{ℕ, zero, suc, ◌+◌, ◌*◌, ◌<◌}
use native.Mathlib.Decide.{dec_lt}
use native.Mathlib.Omega.{arith}
use borrow.Author.Tests.{ltb-true, lt-ltb}
use lib.Dec.{ltb}
use lib.ListN.{length, get_or, length-append}
use Rattle.book.specs.Bounds.{most_processes}
use Rattle.lists.proofs.Tests.{and_both}
use Rattle.lists.specs.Over.{tab_from}
use Rattle.lists.proofs.Over.{all_in, all_out, length_tab, get_d_tab, tab_is}
use Rattle.machine.specs.Named.{tally_bound}
use Rattle.participant.specs.declared.Participant.{Participant}
use Rattle.participant.specs.Calls.{no_participant}
use Rattle.session.specs.declared.Session.{Session}
use Rattle.words.specs.Words.{word}
use Rattle.words.specs.Plain.{number_words}
use Rattle.words.specs.Participant.{participant_length, participant_words, participant_decodes, participant_from}
use Rattle.words.specs.Initiator.{initiator_words, initiator_decodes}
use Rattle.words.specs.Session.{initiator_at, purpose_at, machine_start, place_start, lengths_start, delivered_at, session_length, session_head, place_words, session_words, places_decode, places_at, session_decodes, session_in}
use Rattle.word_laws.specs.Values.{IsSession}
use Rattle.word_laws.specs.Statements.{SessionBack, SessionForm}
use Rattle.word_laws.proofs.Lying.{Lies, lies_self, lies_all, lies_first, lies_second, lies_both, lies_there}
use Rattle.word_laws.proofs.Counters.{tally_small}
use Rattle.word_laws.proofs.Plain.{numbers_back, numbers_form}
use Rattle.word_laws.proofs.Participants.{participant_length_lem, participant_at, participant_decodes_lem, participant_lies}
use Rattle.word_laws.proofs.Initiators.{initiator_length_lem, initiator_at_lem, initiator_decodes_lem, initiator_lies}

-- ---- the participants, one after another

module _ (participants : List Participant) where
  abbrev place : ℕ → Participant
  place k = get_or participants k no_participant

  places_length : (k : ℕ) → length (place_words participants k) ≡ k * participant_length
  unfolding place_words
  places_length zero = refl
  places_length (suc k) =
      omega (arith, length-append (place_words participants k) (participant_words (place k)), places_length k, participant_length_lem (place k))

  seam : (at k : ℕ) → at + k * participant_length ≡ at + length (place_words participants k)
  seam at k = omega (arith, places_length k)

  pub places_in : {words : List ℕ} {at : ℕ} (k : ℕ) → Lies words at (place_words participants k) → (j : ℕ) → j < k
      → Lies words (at + j * participant_length) (participant_words (place j))
  unfolding place_words
  places_in zero lies j h = absurd (omega arith)
  places_in {words} {at} (suc k) lies j h =
      let next : ℕ = at + k * participant_length in
      elim (dec_lt j k) [
        | yes m ↦ places_in k (lies_first (place_words participants k) (participant_words (place k)) next (seam at k) lies) j m
        | no m ↦
            let e : j ≡ k = omega arith in
            rw e (lies_second (place_words participants k) (participant_words (place k)) next (seam at k) lies)
      ]

  places_out : {words : List ℕ} {at : ℕ} (k : ℕ)
      → ((j : ℕ) → j < k → Lies words (at + j * participant_length) (participant_words (place j)))
      → Lies words at (place_words participants k)
  unfolding place_words
  places_out zero all = record { each = λ i h. absurd (omega arith) }
  places_out {words} {at} (suc k) all =
      lies_both (place_words participants k) (participant_words (place k)) (at + k * participant_length) (seam at k)
      (places_out k (λ j h. all j (omega arith))) (all k (omega arith))

-- ---- the parts

module _ (session : Session) where
  abbrev machine : List ℕ
  machine = initiator_words session.machine

  abbrev places : List ℕ
  places = place_words session.participants most_processes

  abbrev lengths : List ℕ
  lengths = number_words session.lengths

  abbrev delivered : List ℕ
  delivered = session.delivered ∷ []

  abbrev after_places : List ℕ
  after_places = lengths ++ delivered

  abbrev after_machine : List ℕ
  after_machine = places ++ after_places

  abbrev after_heading : List ℕ
  after_heading = machine ++ after_machine

  pub record Parts (words : List ℕ) : Type 0 where
    pub first : Lies words 0 (session_head session)
    pub initiator : Lies words machine_start machine
    pub participants : Lies words (place_start 0) places
    pub lengths_there : Lies words lengths_start lengths
    pub delivered_there : Lies words delivered_at delivered

  machine_end : place_start 0 ≡ machine_start + length machine
  machine_end = omega (arith, initiator_length_lem session.machine)

  places_end : lengths_start ≡ place_start 0 + length places
  places_end = omega (arith, places_length session.participants most_processes)

  lengths_end : delivered_at ≡ lengths_start + length lengths
  lengths_end = omega (arith, length_tab most_processes (word session.lengths))

  pub session_length_lem : length (session_words session) ≡ session_length
  unfolding session_words
  session_length_lem =
      omega (
        arith,
        length-append (session_head session) after_heading,
        length-append machine after_machine,
        machine_end,
        length-append places after_places,
        places_end,
        length-append lengths delivered,
        lengths_end,
      )

  pub parts_in : {words : List ℕ} → Lies words 0 (session_words session) → Parts words
  unfolding session_words
  parts_in {words} lies =
      let second : Lies words machine_start after_heading = lies_second (session_head session) after_heading machine_start refl lies in
      let third : Lies words (place_start 0) after_machine = lies_second machine after_machine (place_start 0) machine_end second in
      let fourth : Lies words lengths_start after_places = lies_second places after_places lengths_start places_end third in
      record {
        first = lies_first (session_head session) after_heading machine_start refl lies;
        initiator = lies_first machine after_machine (place_start 0) machine_end second;
        participants = lies_first places after_places lengths_start places_end third;
        lengths_there = lies_first lengths delivered delivered_at lengths_end fourth;
        delivered_there = lies_second lengths delivered delivered_at lengths_end fourth;
      }

  parts_out : {words : List ℕ} → Parts words → Lies words 0 (session_words session)
  unfolding session_words
  parts_out parts =
      lies_both (session_head session) after_heading machine_start refl parts.first
      (lies_both machine after_machine (place_start 0) machine_end parts.initiator
      (lies_both places after_places lengths_start places_end parts.participants
      (lies_both lengths delivered delivered_at lengths_end parts.lengths_there parts.delivered_there)))

-- ---- there and back

module _ (session : Session) (is : IsSession session) where
  abbrev words : List ℕ
  words = session_words session

  parts : Parts session words
  parts = parts_in session (lies_self words)

  place_lies : (k : ℕ) → k < most_processes → Lies words (place_start k) (participant_words (place session.participants k))
  place_lies k h = places_in session.participants most_processes parts.participants k h

  delivered_is : word words delivered_at ≡ session.delivered
  delivered_is = parts.delivered_there.each 0 (omega arith)

  decodes : session_decodes words ≡ true
  unfolding session_decodes places_decode
  decodes =
      let few : word words delivered_at < tally_bound = subst (λ (w : ℕ). w < tally_bound) (sym delivered_is) is.delivered in
      let each : places_decode words ≡ true
      = all_out most_processes (λ k. participant_decodes words (place_start k)) (λ k h. participant_decodes_lem (is.participants k h) (place_lies k h)) in
      rw (initiator_decodes_lem is.machine parts.initiator, each, lt-ltb (word words delivered_at) tally_bound few)

  places_are : places_at words ≡ session.participants
  unfolding places_at
  places_are =
      let f : ℕ → Participant = λ k. participant_from (word words (place_start k)) words (place_start k) in
      sym (tab_is no_participant most_processes f session.participants is.sixteen
      (λ k h. sym (participant_at (is.participants k h) (place_lies k h))))

pub session_back : SessionBack
unfolding session_in
session_back session is =
    let first : Lies (session_words session) 0 (session_head session) = (parts session is).first in
    rw (
      decodes session is,
      first.each 0 (omega arith),
      first.each initiator_at (omega arith),
      first.each purpose_at (omega arith),
      initiator_at_lem is.machine (parts session is).initiator,
      places_are session is,
      numbers_back {words = session_words session} {at = lengths_start} {numbers = session.lengths} is.lengths (parts session is).lengths_there,
      delivered_is session is,
      tally_small session.delivered is.delivered,
    )

module _ (words : List ℕ) (decoded : session_decodes words ≡ true) where
  record Tests : Type 0 where
    machine_test : initiator_decodes words machine_start ≡ true
    places_test : (k : ℕ) → k < most_processes → participant_decodes words (place_start k) ≡ true
    delivered_test : word words delivered_at < tally_bound

  tests : Tests
  unfolding session_decodes places_decode
  tests =
      let few : Bool = ltb (word words delivered_at) tally_bound in
      let a = and_both (initiator_decodes words machine_start) (places_decode words && few) decoded in
      let b = and_both (places_decode words) few a.1 in
      record {
        machine_test = a.0;
        places_test = all_in most_processes (λ k. participant_decodes words (place_start k)) b.0;
        delivered_test = ltb-true (word words delivered_at) tally_bound b.1;
      }

  places_lie : Lies words (place_start 0) (place_words (places_at words) most_processes)
  unfolding places_at
  places_lie =
      let f : ℕ → Participant = λ k. participant_from (word words (place_start k)) words (place_start k) in
      places_out (places_at words) most_processes
      (λ k h.
      subst (λ (p : Participant). Lies words (place_start k) (participant_words p)) (sym (get_d_tab most_processes f k no_participant h))
      (participant_lies words (place_start k) (tests.places_test k h)))

  parts_lie : Parts (session_in words) words
  unfolding session_in tab_from
  parts_lie =
      record {
        first = rw decoded (lies_there words 0 machine_start);
        initiator = initiator_lies words machine_start tests.machine_test;
        participants = places_lie;
        lengths_there = numbers_form words lengths_start;
        delivered_there = rw (tally_small (word words delivered_at) tests.delivered_test) (lies_there words delivered_at 1);
      }

pub session_form : SessionForm
session_form words long decoded =
    lies_all (parts_out (session_in words) (parts_lie words decoded)) (long ∙ sym (session_length_lem (session_in words)))
