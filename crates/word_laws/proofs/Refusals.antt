-- Questions 10 and 11 are asked of a state of no processes, and 13 refuses it.
use mathlib.Core.Path.{◌≡◌, refl, ap, ◌∙◌}
use mathlib.Core.Bool.{Bool, true, false, not, ◌&&◌}
use mathlib.Core.List.{List}
use Prim.Native.Nat.{ℕ}
use native.Mathlib.Omega.{arith}
use borrow.Author.Tests.{ne_eqb}
use lib.Dec.{eqb}
use Rattle.book.specs.Lent.{Tables}
use Rattle.book.specs.declared.Process.{Process}
use Rattle.book.specs.InTurn.{◌then◌, ask}
use Rattle.book.specs.Check.{tables_question}
use Rattle.lists.proofs.Tests.{and_both}
use Rattle.book.proofs.Questions.{then_assoc}
use Rattle.book.specs.Names.{is_named, is_purpose}
use Rattle.book.proofs.Names.{named_in}
use Rattle.machine.specs.Named.{participant_named}
use Rattle.machine.specs.Own.{Own}
use Rattle.participant.specs.declared.Participant.{Participant}
use Rattle.participant.specs.Fits as participant
use Rattle.participant.specs.Calls as participant_calls
use Rattle.initiator.specs.declared.Initiator.{Initiator}
use Rattle.initiator.specs.Fits as initiator
use Rattle.initiator.specs.Calls as initiator_calls
use Rattle.session.specs.declared.Session.{Session}
use Rattle.session.specs.Fits.{session_named, session_purposes, session_fits}
use Rattle.session.specs.Calls.{turn_question}
use Rattle.words.specs.Participant.{participant_from, participant_in}
use Rattle.words.specs.Initiator.{initiator_from, initiator_in}
use Rattle.words.specs.Session.{session_in}
use Rattle.word_laws.specs.Statements.{ParticipantUndecoded, InitiatorUndecoded, SessionUndecoded}

-- ---- questions in turn, where 13 fails if 10 does not

module _ (of_tables : ℕ) (named purpose fitting : Bool) (later : Unit {0} → ℕ) (unfit : named ≡ true → fitting ≡ false) where
  abbrev Refused : ℕ → Type 0
  Refused question = (of_tables then λ _. question) ≡ (of_tables then λ _. ask 10 named then λ _. ask 11 purpose then λ _. 13)

  refused : Refused (ask 10 named then λ _. ask 11 purpose then λ _. ask 13 fitting then later)
  refused = ap (λ (q : ℕ). of_tables then λ _. q) (go named refl)
    where
      go : (t : Bool) → named ≡ t
          → (ask 10 named then λ _. ask 11 purpose then λ _. ask 13 fitting then later) ≡ (ask 10 named then λ _. ask 11 purpose then λ _. 13)
      go true e = rw (unfit e)
      go false e = rw e

  -- where the questions of a state are taken together
  refused_together : Refused ((ask 10 named then λ _. ask 11 purpose then λ _. ask 13 fitting) then later)
  refused_together =
      ap (λ (q : ℕ). of_tables then λ _. q)
      (then_assoc (ask 10 named) (λ _. ask 11 purpose then λ _. ask 13 fitting) later
      ∙ ap (λ (q : ℕ). ask 10 named then λ _. q) (then_assoc (ask 11 purpose) (λ _. ask 13 fitting) later))
      ∙ refused

-- ---- no state of no processes fits tables of some

module _ (m n : ℕ) (none : m ≡ 0) where
  other : (process : ℕ) → is_named n process ≡ true → eqb m n ≡ false
  other process named = let b = named_in n process named in ne_eqb m n (λ e. absurd (omega arith))

  other_participant : (me initiator : ℕ) → participant_named n me initiator ≡ true → eqb m n ≡ false
  other_participant me initiator named =
      other me (and_both (is_named n me) (is_named n initiator && not (eqb me initiator)) named).0

participant_unfit : (own : Own) (state : Participant) → eqb state.n own.n ≡ false → participant.fits own state ≡ false
unfolding participant.fits
participant_unfit own state h = rw h

initiator_unfit : (own : Own) (state : Initiator) → eqb state.n own.n ≡ false → initiator.fits own state ≡ false
unfolding initiator.fits
initiator_unfit own state h = rw h

session_unfit : (tables : Tables) (session : Session) (strands : List ℕ) → eqb session.n tables.shape.n ≡ false
    → session_fits tables session strands ≡ false
unfolding session_fits
session_unfit tables session strands h = rw h

module _ (tables : Tables) where
  abbrev of_tables : ℕ
  of_tables = tables_question tables

  participant_refused : (state : Participant) (message out : List ℕ) → state.n ≡ 0
      → participant_calls.receive_question tables state message out
      ≡ (of_tables
      then λ _. ask 10 (participant_named tables.shape.n state.me.0 state.initiator.0)
      then λ _. ask 11 (is_purpose state.purpose)
      then λ _. 13)
  unfolding participant_calls.receive_question
  participant_refused state message out none =
      let own : Own = participant_calls.own_of_state tables state in
      refused_together of_tables (participant_named tables.shape.n state.me.0 state.initiator.0) (is_purpose state.purpose) (participant.fits own state) _
      (λ named. participant_unfit own state (other_participant state.n tables.shape.n none state.me.0 state.initiator.0 named))

  initiator_refused : (state : Initiator) (message out : List ℕ) → state.n ≡ 0
      → initiator_calls.receive_question tables state message out
      ≡ (of_tables then λ _. ask 10 (is_named tables.shape.n state.me.0) then λ _. ask 11 (is_purpose state.purpose) then λ _. 13)
  unfolding initiator_calls.receive_question
  initiator_refused state message out none =
      let own : Own = initiator_calls.own_of_state tables state in
      refused_together of_tables (is_named tables.shape.n state.me.0) (is_purpose state.purpose) (initiator.fits own state) _
      (λ named. initiator_unfit own state (other state.n tables.shape.n none state.me.0 named))

  session_refused : (session : Session) (p : Process) (strands : List ℕ) → session.n ≡ 0
      → turn_question tables session p strands
      ≡ (of_tables
      then λ _. ask 10 (participant_named tables.shape.n p.0 session.initiator.0 && session_named tables.shape.n session)
      then λ _. ask 11 (session_purposes session)
      then λ _. 13)
  unfolding turn_question
  session_refused session p strands none =
      let n : ℕ = tables.shape.n in
      let names : Bool = participant_named n p.0 session.initiator.0 in
      refused of_tables (names && session_named n session) (session_purposes session) (session_fits tables session strands) _
      (λ named.
      session_unfit tables session strands
      (other_participant session.n n none p.0 session.initiator.0 (and_both names (session_named n session) named).0))

-- ---- what does not decode has no processes

pub participant_undecoded : ParticipantUndecoded
unfolding participant_in participant_from
participant_undecoded tables words message out undecoded =
    participant_refused tables (participant_in words) message out (rw undecoded)

pub initiator_undecoded : InitiatorUndecoded
unfolding initiator_in initiator_from
initiator_undecoded tables words message out undecoded =
    initiator_refused tables (initiator_in words) message out (rw undecoded)

pub session_undecoded : SessionUndecoded
unfolding session_in
session_undecoded tables words p strands undecoded = session_refused tables (session_in words) p strands (rw undecoded)
