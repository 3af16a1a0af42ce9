-- On what of the tables a call depends: the own checkpoints.
use mathlib.Core.Path.{◌≡◌, refl, sym, ap, ◌∙◌}
use mathlib.Core.Bool.{Bool, true, false}
use Prim.Native.Nat.{ℕ, ◌-◌}
use native.Mathlib.Omega.{arith}
use lib.Dec.{eqb}
use Rattle.book.specs.InTurn.{ask}
use Rattle.book.specs.Check.{tables_question}
use Rattle.lists.specs.Pick.{pick}
use Rattle.message.specs.declared.Message.{Message}
use Rattle.book.specs.Names.{is_purpose}
use Rattle.mail.specs.declared.Outgoing.{Outgoing}
use Rattle.machine.specs.Own.{Own, own_of, has_checkpoint, newest_permitted}
use Rattle.machine.specs.Sends.{is_termination}
use Rattle.machine.specs.Named.{participant_named}
use Rattle.machine_laws.specs.Own.{IsOwn, Agree}
use Rattle.machine_laws.proofs.Checkpoints.{checkpoint_in}
use Rattle.machine_laws.proofs.Calls.{same_asked, same_put, same_received}
use Rattle.machine_laws.proofs.Theorems.{both_own, newest_exists, same_newest, same_row}
use Rattle.participant.specs.declared.Participant.{Participant}
use Rattle.participant.specs.declared.ParticipantStep.{ParticipantStep}
use Rattle.participant.specs.declared.Stage.{Stage}
use Rattle.participant.specs.declared.Stage.TheVariants.{Before, Searching, Ended}
use Rattle.participant.specs.Fits.{search_fits, unknown_on, stage_fits, fits}
use Rattle.participant.specs.Step.{first, end_on_oldest, end, step_back, report_of, silent, step}
use Rattle.participant.specs.Calls.{no_participant, first_state, read_by, message_question, step_on, receive_question, state_after, lengths_after, bytes_after}
use Rattle.participant_laws.specs.Statements.{ReceiveIsLocal, FirstIsLocal}
use Rattle.participant_laws.proofs.Accepted.{both_named, known}

-- ---- the same checkpoints

module _ (a b : Own) (j : ℕ) (is_a : IsOwn a j) (is_b : IsOwn b j) (agree : Agree a b) where
  module _ (state : Participant) where
    search_same : has_checkpoint a state.candidate.0 ≡ true → search_fits a state ≡ search_fits b state
    unfolding search_fits
    search_same there =
        let r : ℕ = state.candidate.0 in
        let within = checkpoint_in a r there in
        rw (same_row a b j r is_a is_b agree within.0 within.1, same_newest a b state.column agree)

    stage_same : has_checkpoint a state.candidate.0 ≡ true → (s : Stage) → stage_fits a state s ≡ stage_fits b state s
    stage_same there Before = ap (λ (r : ℕ). unknown_on r state) agree.checkpoints
    stage_same there Searching = search_same there
    stage_same there Ended = ap (pick (eqb state.purpose 2) (unknown_on 1 state)) (search_same there)

    fits_same : fits a state ≡ fits b state
    unfolding fits
    fits_same = go (has_checkpoint a state.candidate.0) refl
      where
        checkpoints : has_checkpoint a state.candidate.0 ≡ has_checkpoint b state.candidate.0
        checkpoints = rw agree.checkpoints

        go : (t : Bool) → has_checkpoint a state.candidate.0 ≡ t → fits a state ≡ fits b state
        go true e = rw (stage_same e state.stage, checkpoints, agree.processes)
        go false e = rw (e, sym checkpoints ∙ e, agree.processes)

  module _ (state : Participant) (m : Message) where
    back_same : step_back a state m ≡ step_back b state m
    unfolding step_back
    back_same =
        let r : ℕ = newest_permitted a (known state m) in
        let there = checkpoint_in a r (newest_exists a j (known state m) is_a) in
        rw (same_row a b j r is_a is_b agree there.0 there.1, same_newest a b (known state m) agree)

    step_same : step a state m ≡ step b state m
    unfolding step
    step_same =
        ap {B = ParticipantStep}
        (λ (after : Participant).
        pick (eqb m.head.purpose 2) (silent (end_on_oldest state)) (pick (is_termination m) (silent (end state)) (report_of state after)))
        back_same

-- ---- the calls

pub receive_is_local : ReceiveIsLocal
unfolding receive_question state_after lengths_after bytes_after
receive_is_local tables tables' state s out same_to =
    let j : ℕ = state.me.0 - 1 in
    let own : Own = own_of tables j in
    let own' : Own = own_of tables' j in
    let outgoing : ParticipantStep → Outgoing = λ x. x.outgoing in
    same_received (λ n. participant_named n state.me.0 state.initiator.0) (is_purpose state.purpose) (λ n. message_question n state s) outgoing out
    state (λ x. x.state) (tables_question tables) (tables_question tables') tables.shape.n tables'.shape.n
    (fits own state) (fits own' state) (step_on tables state s) (step_on tables' state s)
    same_to.accepted.passed same_to.accepted'.passed same_to.agree.processes
    (λ h.
    let names = both_named tables.shape.n state.me.0 state.initiator.0 h in
    let is = both_own same_to (omega (arith, names.me_some, names.me_most)) in (
      fits_same own own' j is.0 is.1 same_to.agree state,
      step_same own own' j is.0 is.1 same_to.agree state (read_by tables.shape.n state s)
          ∙ ap (λ (n : ℕ). step own' state (read_by n state s)) same_to.agree.processes,
    ))

pub first_is_local : FirstIsLocal
unfolding first_state
first_is_local tables tables' me initiator purpose same_to =
    let named : ℕ → Bool = λ n. participant_named n me.0 initiator.0 in
    let later : ℕ → Participant → ℕ = λ n y. ask 11 (is_purpose purpose) in
    let x : Participant = first (own_of tables (me.0 - 1)) me initiator purpose in
    let x' : Participant = first (own_of tables' (me.0 - 1)) me initiator purpose in
    let begun : x ≡ x' = rw (same_to.agree.processes, same_to.agree.checkpoints) in (
      same_asked named later (tables_question tables) (tables_question tables') tables.shape.n tables'.shape.n x x'
          same_to.accepted.passed same_to.accepted'.passed same_to.agree.processes (λ _. begun),
      same_put named later (tables_question tables) (tables_question tables') tables.shape.n tables'.shape.n x x'
          same_to.accepted.passed same_to.accepted'.passed same_to.agree.processes (λ _. begun) no_participant (λ y. y),
    )
