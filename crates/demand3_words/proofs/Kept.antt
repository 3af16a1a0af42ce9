-- The session that a start leaves has one form in words, and a turn keeps that.
use mathlib.Core.Path.{◌≡◌, refl, sym, ap, subst, ◌∙◌}
use mathlib.Core.Bool.{Bool, true, false, true≢false}
use mathlib.Core.List.{List}
use Prim.Native.Nat.{ℕ, zero, suc, ◌-◌, ◌<◌}
use native.Mathlib.Decide.{ℕ_discrete}
use native.Mathlib.Omega.{arith}
use borrow.Author.Tests.{eqb-true}
use lib.ListN.{length, get_or, set, length-set, length-replicate, get_or-replicate}
use lib.Seq.{get_or-set_same, get_or-set_other}
use lib.Dec.{eqb}
use Rattle.book.specs.Lent.{Tables}
use Rattle.book.specs.declared.Process.{Process}
use Rattle.book.specs.Bounds.{most_processes}
use Rattle.book.specs.InTurn.{unless_refused}
use Rattle.lists.proofs.Over.{length_tab, get_d_tab}
use Rattle.lists.specs.Pick.{pick}
use Rattle.lists.proofs.Pick.{pick_each}
use Rattle.matrix.specs.Matrix.{row}
use Rattle.matrix.specs.Entries.{all_lower}
use Rattle.message.specs.declared.Message.{Message}
use Rattle.message.specs.Formed.{message_formed}
use Rattle.machine.specs.Own.{Own, own_of}
use Rattle.machine.specs.Named.{is_participant, tally_limit}
use Rattle.machine_laws.specs.Own.{IsOwn}
use Rattle.machine_laws.proofs.Calls.{three_yes}
use Rattle.machine_laws.proofs.Theorems.{is_own}
use Rattle.participant.specs.declared.Participant.{Participant}
use Rattle.participant.specs.Step as participant_step
use Rattle.participant.specs.Calls as participant
use Rattle.initiator.specs.declared.Initiator.{Initiator}
use Rattle.initiator.specs.Step as initiator_step
use Rattle.initiator.specs.Calls as initiator
use Rattle.session.specs.declared.Session.{Session}
use Rattle.session.specs.declared.Turned.{Turned}
use Rattle.session.specs.declared.Waiting.{Waiting}
use Rattle.session.specs.declared.Waiting.TheVariants.{Nothing, Asking, Ending, Report, Stray}
use Rattle.session.specs.Workers.{initiator_of, participant_at}
use Rattle.session.specs.Held.{sender_in, ends_search, held_down, held_up, waiting_bytes, held}
use Rattle.session.specs.Steps.{place_at_start, begun, delivered_on, deliver_down, deliver_up, deliver, with_posted}
use Rattle.session.specs.Calls.{no_session, start_question, session_started, turned, turn_question, session_after}
use Rattle.session_theory.proofs.Boxes.{lengths_long}
use Rattle.turns.proofs.Starting.{tables_none, named_none, start_there}
use Rattle.demand3.proofs.Counts.{report_passes, report_sender}
use Rattle.word_laws.specs.Values.{IsParticipant, IsInitiator, IsSession}
use Rattle.demand3_words.specs.Kept.{StartIsSession, TurnIsSession}
use Rattle.demand3_words.proofs.Machines.{first_is, absent_is, participant_kept, nobody_is, begin_is, initiator_kept}
use Rattle.demand3_words.proofs.Passed.{place_small, its_own, initiator_own, rounds_few, delivered_few}

-- what holds of what stood there, and of what an accepted call puts there, holds of what stands there after the call
pub by_answer : {A : Type 0} (P : A → Type 0) (q : ℕ) (before after : A) → P before → (q ≡ 0 → P after) → P (unless_refused q before after)
by_answer P zero before after h k = k refl
by_answer P (suc q) before after h k = h

-- messages posted change the lengths alone
posted_is : (t : Turned) → IsSession t.session → IsSession (with_posted t)
unfolding with_posted
posted_is t is =
    record {
      machine = is.machine;
      sixteen = is.sixteen;
      participants = is.participants;
      lengths = lengths_long t.outgoing t.session.lengths;
      delivered = is.delivered;
    }

-- ---- the start

none_is : IsSession no_session
unfolding no_session
none_is =
    record {
      machine = nobody_is;
      sixteen = length-replicate 16 participant.no_participant;
      participants = λ k h. subst IsParticipant (sym (get_or-replicate 16 k participant.no_participant participant.no_participant h)) absent_is;
      lengths = length-replicate {A = ℕ} 16 0;
      delivered = omega arith;
    }

begun_is : (tables : Tables) (initiator : Process) (purpose : ℕ)
    → IsOwn (own_of tables (initiator.0 - 1)) (initiator.0 - 1) → IsSession (begun tables initiator purpose).session
unfolding begun
begun_is tables initiator purpose own =
    let place : ℕ → Participant = place_at_start tables initiator purpose in
    record {
      machine = begin_is (own_of tables (initiator.0 - 1)) initiator purpose own;
      sixteen = length_tab 16 place;
      participants = λ k h.
          subst IsParticipant (sym (get_d_tab 16 place k participant.no_participant h))
          (pick_each IsParticipant (is_participant tables.shape.n (initiator.0 - 1) k)
          (participant_step.first (own_of tables k) (record { 0 = suc k }) initiator purpose) participant.no_participant
          (first_is (own_of tables k) (record { 0 = suc k }) initiator purpose) absent_is);
      lengths = length-replicate {A = ℕ} 16 0;
      delivered = omega arith;
    }

pub start_is_session : StartIsSession
unfolding session_started
start_is_session tables initiator purpose strands sixteen =
    by_answer IsSession (start_question tables initiator purpose strands) no_session
    (with_posted (begun tables initiator purpose)) none_is
    (λ accepted.
    let there = start_there tables initiator purpose strands (named_none tables initiator purpose strands accepted) in
    posted_is (begun tables initiator purpose)
    (begun_is tables initiator purpose
    (is_own {t = tables} (record { sixteen = sixteen; passed = tables_none tables initiator purpose strands accepted }) (initiator.0 - 1)
    (omega (arith, there)))))

-- ---- a delivery

-- what goes down to a participant passes its questions
abbrev goes_down : Waiting → Bool
goes_down Nothing = false
goes_down Asking = true
goes_down Ending = true
goes_down Report = false
goes_down Stray = false

only_down :
    (none down passes ends up passes_up : Bool)
    → goes_down (pick none Nothing (pick down (pick passes (pick ends Ending Asking) Stray) (pick up (pick passes_up Report Stray) Stray))) ≡ true
    → passes ≡ true
only_down true down passes ends up passes_up h = absurd (true≢false (sym h))
only_down false true true ends up passes_up h = refl
only_down false true false ends up passes_up h = absurd (true≢false (sym h))
only_down false false passes ends true true h = absurd (true≢false (sym h))
only_down false false passes ends true false h = absurd (true≢false (sym h))
only_down false false passes ends false passes_up h = absurd (true≢false (sym h))

down_passes : (n : ℕ) (session : Session) (k : ℕ) (s : List ℕ) → goes_down (held n session k s) ≡ true
    → participant.message_question n (participant_at session k) s ≡ 0
unfolding held held_down held_up
down_passes n session k s h =
    let p : Participant = participant_at session k in
    eqb-true (participant.message_question n p s) 0
    (only_down (eqb (length s) 0) (eqb (sender_in s) session.initiator.0) (eqb (participant.message_question n p s) 0)
    (ends_search (participant.read_by n p s)) (eqb (sender_in s) (suc k)) (eqb (initiator.message_question n session.machine s) 0) h)

module _ (tables : Tables) (session : Session) (is : IsSession session) where
  -- the machines after it
  delivered_is : (k : ℕ) (machine : Initiator) (participants : List Participant) → session.delivered < tally_limit
      → IsInitiator machine → length participants ≡ 16
      → ((q : ℕ) → q < 16 → IsParticipant (get_or participants q participant.no_participant))
      → IsSession (delivered_on session k machine participants)
  delivered_is k machine participants few its sixteen all =
      record {
        machine = its;
        sixteen = sixteen;
        participants = all;
        lengths = length-set session.lengths k 0 ∙ is.lengths;
        delivered = omega arith;
      }

  one_put : (k : ℕ) (p : Participant) → k < 16 → IsParticipant p → (q : ℕ) → q < 16
      → IsParticipant (get_or (set session.participants k p) q participant.no_participant)
  one_put k p small here q h =
      let there : k < length session.participants = omega (arith, is.sixteen) in
      elim (ℕ_discrete q k) [
        | yes e ↦ rw (e, get_or-set_same session.participants k p participant.no_participant there) here
        | no ne ↦ rw (get_or-set_other session.participants k q p participant.no_participant ne) (is.participants q h)
      ]

  module _ (p : Process) (strands : List ℕ) (sixteen : length tables.shape.counts ≡ most_processes)
      (accepted : turn_question tables session p strands ≡ 0) where
    abbrev k : ℕ
    k = p.0 - 1

    abbrev s : List ℕ
    s = waiting_bytes tables.shape.n session strands k

    few : session.delivered < tally_limit
    few = delivered_few tables session p strands accepted sixteen

    down_is : goes_down (held tables.shape.n session k s) ≡ true → IsSession (deliver_down tables session k s).session
    unfolding deliver_down
    down_is h =
        let small : k < 16 = place_small tables session p strands accepted in
        let q : Participant = participant_at session k in
        let own : Own = own_of tables k in
        let m : Message = participant.read_by tables.shape.n q s in
        let asked =
        three_yes 13 14 15 (message_formed tables.shape.n q.me.0 q.initiator.0 s) (participant_step.awaits q m) (all_lower m.news q.column)
        (down_passes tables.shape.n session k s h) in
        let next : Participant = (participant_step.step own q m).state in
        let its : IsParticipant next
        = participant_kept own k (its_own tables session p strands accepted sixteen) q m (is.participants k small) asked.2 in
        delivered_is k session.machine (set session.participants k next) few is.machine
        (length-set session.participants k next ∙ is.sixteen) (one_put k next small its)

    up_is : held tables.shape.n session k s ≡ Report → IsSession (deliver_up tables session k s).session
    unfolding deliver_up
    up_is h =
        let small : k < 16 = place_small tables session p strands accepted in
        let state : Initiator = session.machine in
        let own : Own = own_of tables (initiator_of session) in
        let m : Message = initiator.read_by tables.shape.n state s in
        let asked =
        three_yes 13 14 15 (message_formed tables.shape.n state.me.0 state.me.0 s) (initiator_step.awaits state m)
        (all_lower m.news (row state.matrix (initiator_step.sender_of m))) (report_passes tables.shape.n session k s h) in
        let sender : initiator_step.sender_of m < 16 = omega (arith, report_sender tables.shape.n session k s h) in
        delivered_is k (initiator_step.step own state m).state session.participants few
        (initiator_kept own (initiator_of session) (initiator_own tables session p strands accepted sixteen) state m is.machine
        asked.2 sender (rounds_few tables session p strands accepted sixteen))
        is.sixteen is.participants

    by_held : (w : Waiting) → held tables.shape.n session k s ≡ w → IsSession (deliver tables session k s w).session
    by_held Nothing e = is
    by_held Asking e = down_is (ap goes_down e)
    by_held Ending e = down_is (ap goes_down e)
    by_held Report e = up_is e
    by_held Stray e = is

pub turn_is_session : TurnIsSession
unfolding session_after
turn_is_session tables session p strands sixteen is =
    let next : Turned = turned tables session p strands in
    by_answer IsSession (turn_question tables session p strands) session (with_posted next) is
    (λ accepted.
    posted_is next
    (by_held tables session is p strands sixteen accepted
    (held tables.shape.n session (p.0 - 1) (waiting_bytes tables.shape.n session strands (p.0 - 1))) refl))
