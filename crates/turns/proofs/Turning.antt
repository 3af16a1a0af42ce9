-- The questions of a turn, and what it hands back.
use mathlib.Core.Path.{◌≡◌, refl, sym, ap, subst, ◌∙◌}
use mathlib.Core.Bool.{Bool, true, false, not, ◌&&◌}
use mathlib.Core.List.{List, []}
use Prim.Native.Nat.{ℕ, ◌-◌, ◌≤◌}
use native.Mathlib.Omega.{arith}
use borrow.Author.Tests.{eq-eqb, ne_eqb, eqb-false, not-true, lt-ltb}
use lib.ListN.{take, drop}
use lib.Dec.{eqb, ltb}
use Rattle.book.specs.Lent.{Tables}
use Rattle.std.specs.Prelude.{Result}
use Rattle.book.specs.declared.Question.{Question}
use Rattle.book.specs.declared.Process.{Process}
use Rattle.book.specs.InTurn.{◌then◌, ask, answer_with}
use Rattle.book.specs.Numbers.{number, by_number}
use Rattle.book.specs.Check.{tables_question}
use Rattle.lists.proofs.Tests.{and_both, both_and}
use Rattle.book.proofs.Questions.{then_none, then_passed, asked_yes, ask_yes, kept_passed}
use Rattle.lists.specs.Over.{all_to, tab_from}
use Rattle.message.specs.declared.Head.{Head}
use Rattle.book.specs.Names.{is_named}
use Rattle.machine.specs.Named.{participant_named, is_participant}
use Rattle.machine.specs.Sends.{other_head, nothing}
use Rattle.strands.specs.Strands.{have_room, posted, length_on, strand_start, strand_bytes}
pub use Rattle.participant.proofs.Fitting.{named_there as participant_there}
use Rattle.session.specs.declared.Session.{Session}
use Rattle.session.specs.declared.Turned.{Turned}
use Rattle.session.specs.declared.Waiting.{Waiting}
use Rattle.session.specs.declared.Waiting.TheVariants.{Nothing}
use Rattle.session.specs.Workers.{initiator_of, waits_on}
use Rattle.session.specs.Held.{waiting_bytes, held}
use Rattle.session.specs.Fits.{session_named, session_purposes, session_fits}
use Rattle.session.specs.Steps.{as_before, deliver, with_posted}
use Rattle.session.specs.Calls.{turned, turn_question, session_after, strands_after}
use Rattle.turns.specs.Parts.{room_asked, strands_with}
use Rattle.turns.proofs.Answers.{three_then, at_first, at_second, at_last, no_pass, kept, answered, Handed, handed_by}
use Rattle.turns.proofs.Delivering.{same_initiator}

-- ---- who is named

-- counted from 0, it is a participant
pub is_participant_lem : (n p initiator : ℕ) → participant_named n p initiator ≡ true → is_participant n (initiator - 1) (p - 1) ≡ true
is_participant_lem n p initiator h =
    let both = and_both (is_named n p) (is_named n initiator && not (eqb p initiator)) h in
    let other = and_both (is_named n initiator) (not (eqb p initiator)) both.1 in
    let there = participant_there n p initiator h in
    let differ : (p ≡ initiator → ⊥) = eqb-false p initiator (not-true (eqb p initiator) other.1) in
    let apart : (p - 1 ≡ initiator - 1 → ⊥) = λ e. differ (omega (arith, there, e)) in
    both_and (ltb (p - 1) n) (not (eqb (p - 1) (initiator - 1))) (lt-ltb (p - 1) n (omega (arith, there)))
    (ap (λ (b : Bool). not b) (ne_eqb (p - 1) (initiator - 1) apart))

-- ---- where nothing waits

-- what sends nothing has room
silent_room : (n initiator : ℕ) (head : Head) (strands : List ℕ) → have_room n initiator (nothing head) strands ≡ true
unfolding have_room nothing all_to tab_from
silent_room n initiator head strands = refl

module _ (tables : Tables) (session : Session) (p : Process) (strands : List ℕ) where
  abbrev place : ℕ
  place = p.0 - 1

  no_bytes : length_on session.lengths place ≡ 0 → waiting_bytes tables.shape.n session strands place ≡ []
  unfolding strand_bytes
  no_bytes h = ap (λ (long : ℕ). take long (drop (strand_start tables.shape.n (initiator_of session) place) strands)) h

  none_held : held tables.shape.n session place [] ≡ Nothing
  unfolding held
  none_held = refl

  abbrev pub next : Turned
  next = turned tables session p strands

  nothing_delivered : length_on session.lengths place ≡ 0 → next ≡ as_before session
  nothing_delivered h =
      (λ i. deliver tables session place (no_bytes h i) (held tables.shape.n session place (no_bytes h i)))
      ∙ ap (λ (w : Waiting). deliver tables session place [] w) none_held

  -- ---- the questions

  abbrev of_tables : ℕ
  of_tables = tables_question tables

  abbrev names : Bool
  names = participant_named tables.shape.n p.0 session.initiator.0 && session_named tables.shape.n session

  abbrev pub of_session : ℕ
  of_session =
      ask 10 names
      then λ _. ask 11 (session_purposes session)
      then λ _. ask 13 (session_fits tables session strands)

  abbrev has_room : Bool
  has_room = have_room tables.shape.n (initiator_of session) next.outgoing strands

  abbrev waits : Bool
  waits = waits_on session place

  abbrev last : ℕ
  last = ask 17 has_room then λ _. ask 18 waits

  abbrev asked : ℕ
  asked = turn_question tables session p strands

  abbrev written : List ℕ
  written = posted tables.shape.n (initiator_of session) next.outgoing strands

  by_parts : asked ≡ (of_tables then λ _. of_session then λ _. last)
  unfolding turn_question
  by_parts =
      ap (λ (q : ℕ). of_tables then λ _. q)
      (sym (three_then (ask 10 names) (ask 11 (session_purposes session)) (ask 13 (session_fits tables session strands)) last))

  -- a question that fails
  pub turn_tables : (e : Question) → of_tables ≡ number e → asked ≡ number e
  turn_tables e h = by_parts ∙ at_first of_tables of_session last (no_pass e of_tables h) ∙ h

  module _ (passed : of_tables ≡ 0) where
    pub turn_session : (e : Question) → of_session ≡ number e → asked ≡ number e
    turn_session e h = by_parts ∙ at_second of_tables of_session last passed (no_pass e of_session h) ∙ h

    module _ (fits : of_session ≡ 0) where
      -- where nothing waits, nothing is sent: 17 passes and 18 answers
      pub turn_nothing : length_on session.lengths place ≡ 0 → asked ≡ 18
      turn_nothing h = by_parts ∙ at_last of_tables of_session last passed fits ∙ fails
        where
          roomy : has_room ≡ true
          roomy =
              ap (λ (t : Turned). have_room tables.shape.n (initiator_of session) t.outgoing strands) (nothing_delivered h)
              ∙ silent_room tables.shape.n (initiator_of session) (other_head session.purpose session.initiator) strands

          fails : last ≡ 18
          fails =
              then_passed (ask 17 has_room) (λ _. ask 18 waits) (ask_yes 17 has_room roomy)
              ∙ ap (λ (b : Bool). ask 18 (not b)) (eq-eqb (length_on session.lengths place) 0 h)

      -- where a message waits, 17 is the last question
      pub turn_posted : (length_on session.lengths place ≡ 0 → ⊥) → (done : Turned) → done ≡ next
          → (answer : Result Session Question) (bytes : List ℕ)
          → Handed (room_asked tables.shape.n done strands) (with_posted done) strands (strands_with tables.shape.n done strands) answer bytes
          → (by_number answer ≡ answer_with asked (session_after tables session p strands))
          × (bytes ≡ strands_after tables session p strands)
      unfolding session_after strands_after
      turn_posted some done e answer bytes given =
          let whole =
          handed_by asked (ask 17 has_room) (with_posted next) strands written answer bytes
          (by_parts ∙ at_last of_tables of_session last passed fits ∙ only has_room waits (ap (λ (b : Bool). not b) (ne_eqb (length_on session.lengths place) 0 some)))
          (subst
          (λ (t : Process).
          Handed (ask 17 (have_room tables.shape.n (t.0 - 1) next.outgoing strands)) (with_posted next) strands
          (posted tables.shape.n (t.0 - 1) next.outgoing strands) answer bytes)
          (same_initiator tables session place (waiting_bytes tables.shape.n session strands place)
          (held tables.shape.n session place (waiting_bytes tables.shape.n session strands place)))
          (subst
          (λ (t : Turned).
          Handed (room_asked tables.shape.n t strands) (with_posted t) strands (strands_with tables.shape.n t strands) answer bytes)
          e given)) in
          (whole.0 ∙ answered asked session (with_posted next), whole.1)
        where
          only : (a b : Bool) → b ≡ true → (ask 17 a then λ _. ask 18 b) ≡ ask 17 a
          only true b h = rw h
          only false b h = refl

  pub turn_kept : (e : Question) → asked ≡ number e → strands ≡ strands_after tables session p strands
  unfolding strands_after
  turn_kept e h = kept e asked strands written h

  same_done : (done : Turned) → done ≡ next → done.session.initiator ≡ session.initiator
  same_done done e =
      ap (λ (t : Turned). t.session.initiator) e
      ∙ same_initiator tables session place (waiting_bytes tables.shape.n session strands place)
      (held tables.shape.n session place (waiting_bytes tables.shape.n session strands place))

  pub turn_initiator : (done : Turned) → done ≡ next → 1 ≤ session.initiator.0 → 1 ≤ done.session.initiator.0
  turn_initiator done e h = subst (λ (t : Process). 1 ≤ t.0) (sym (same_done done e)) h

  -- ---- what passed questions say

  module _ (fits : of_session ≡ 0) where
    pub passed_names : participant_named tables.shape.n p.0 session.initiator.0 ≡ true
    passed_names =
        (and_both (participant_named tables.shape.n p.0 session.initiator.0) (session_named tables.shape.n session)
        (asked_yes 9 names (then_none (ask 10 names) _ fits).0)).0

    pub passed_fits : session_fits tables session strands ≡ true
    passed_fits =
        let after_names = (then_none (ask 10 names) _ fits).1 in
        asked_yes 12 (session_fits tables session strands)
        (then_none (ask 11 (session_purposes session)) (λ _. ask 13 (session_fits tables session strands)) after_names).1

  -- ---- a turn that no question refuses

  module _ (none : asked ≡ 0) where
    parts_none : (of_tables ≡ 0) × ((of_session then λ _. last) ≡ 0)
    parts_none = then_none of_tables (λ _. of_session then λ _. last) (sym by_parts ∙ none)

    pub session_none : of_session ≡ 0
    session_none = (then_none of_session (λ _. last) parts_none.1).0

    last_none : (ask 17 has_room ≡ 0) × (ask 18 waits ≡ 0)
    last_none = then_none (ask 17 has_room) (λ _. ask 18 waits) (then_none of_session (λ _. last) parts_none.1).1

    pub none_waits : (length_on session.lengths place ≡ 0 → ⊥)
    none_waits = eqb-false (length_on session.lengths place) 0 (not-true (eqb (length_on session.lengths place) 0) (asked_yes 17 waits last_none.1))

    module _ (done : Turned) (e : done ≡ next) where
      pub taken_room : have_room tables.shape.n (done.session.initiator.0 - 1) done.outgoing strands ≡ true
      taken_room =
          (λ i. have_room tables.shape.n ((same_done done e i).0 - 1) (e i).outgoing strands) ∙ asked_yes 16 has_room last_none.0

      pub taken : (after : Session) (bytes : List ℕ) → after ≡ with_posted done → bytes ≡ strands_with tables.shape.n done strands
          → (after ≡ session_after tables session p strands) × (bytes ≡ strands_after tables session p strands)
      unfolding session_after strands_after
      taken after bytes f g = (
        f ∙ ap with_posted e ∙ sym (kept_passed asked session (with_posted next) none),
        g ∙ (λ i. posted tables.shape.n ((same_done done e i).0 - 1) (e i).outgoing strands) ∙ sym (kept_passed asked strands written none),
      )
