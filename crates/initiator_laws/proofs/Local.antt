-- Where two accepted tables have the same checkpoints of the initiator, its calls are the same.
use mathlib.Core.Path.{◌≡◌, refl, sym, ap, ◌∙◌}
use mathlib.Core.Bool.{Bool, true, false}
use mathlib.Core.List.{List}
use Prim.Native.Nat.{ℕ, ◌-◌}
use native.Mathlib.Omega.{arith}
use Rattle.book.specs.declared.Count.{Count}
use Rattle.book.specs.declared.Process.{Process}
use Rattle.book.specs.InTurn.{◌then◌, ask}
use Rattle.book.specs.Check.{tables_question}
use Rattle.lists.specs.Pick.{pick}
use Rattle.matrix.specs.Matrix.{column}
use Rattle.message.specs.declared.Message.{Message}
use Rattle.book.specs.Names.{is_named, is_purpose}
use Rattle.mail.specs.declared.Outgoing.{Outgoing}
use Rattle.mail.specs.Outgoing.{room_question}
use Rattle.machine.specs.Own.{Own, own_of, has_checkpoint, newest_permitted}
use Rattle.machine.specs.Flags.{someone}
use Rattle.machine_laws.specs.Own.{IsOwn, Agree}
use Rattle.machine_laws.proofs.Messages.{named_there}
use Rattle.machine_laws.proofs.Checkpoints.{checkpoint_in}
use Rattle.machine_laws.proofs.Calls.{same_call, same_received}
use Rattle.machine_laws.proofs.Theorems.{both_own, newest_exists, same_newest, same_row}
use Rattle.initiator.specs.declared.Initiator.{Initiator}
use Rattle.initiator.specs.declared.InitiatorStep.{InitiatorStep}
use Rattle.initiator.specs.Fits.{kept_matrix, search_fits, stage_fits, fits}
use Rattle.initiator.specs.Begin.{begin_search, begin}
use Rattle.initiator.specs.Step.{take_report, step_back, compare, silent, step}
use Rattle.initiator.specs.Calls.{read_by, message_question, step_on, receive_question, state_after, lengths_after, bytes_after, begin_on, begin_question, no_initiator, state_begun, lengths_begun, bytes_begun}
use Rattle.initiator_laws.specs.Statements.{ReceiveIsLocal, BeginIsLocal}

module _ (a b : Own) (j : ℕ) (is_a : IsOwn a j) (is_b : IsOwn b j) (agree : Agree a b) where
  same_back : (state : Initiator) → step_back a state ≡ step_back b state
  unfolding step_back
  same_back state =
      let known : List Count = column state.matrix (state.me.0 - 1) in
      let there = checkpoint_in a (newest_permitted a known) (newest_exists a j known is_a) in
      rw (same_row a b j (newest_permitted a known) is_a is_b agree there.0 there.1, same_newest a b known agree)

  same_step : (state : Initiator) (m : Message) → step a state m ≡ step b state m
  unfolding step
  same_step state m =
      ap (λ (s : Initiator). pick (someone (take_report state m).awaited) (silent (take_report state m)) (compare s))
      (same_back (take_report state m))

  same_begin : (me : Process) (purpose : ℕ) → begin a me purpose ≡ begin b me purpose
  unfolding begin begin_search
  same_begin me purpose =
      rw (same_row a b j a.count is_a is_b agree is_a.some (omega arith), agree.processes, agree.checkpoints)

  same_stage : (state : Initiator) → has_checkpoint a state.candidate.0 ≡ true → stage_fits a state ≡ stage_fits b state
  unfolding search_fits
  same_stage state exists =
      let there = checkpoint_in a state.candidate.0 exists in
      rw (
        same_row a b j state.candidate.0 is_a is_b agree there.0 there.1,
        same_newest a b (column (kept_matrix state) (state.me.0 - 1)) agree,
      )

  same_fits : (state : Initiator) → fits a state ≡ fits b state
  unfolding fits
  same_fits state = go (has_checkpoint a state.candidate.0) refl
    where
      checkpoints : has_checkpoint a state.candidate.0 ≡ has_checkpoint b state.candidate.0
      checkpoints = rw agree.checkpoints

      go : (t : Bool) → has_checkpoint a state.candidate.0 ≡ t → fits a state ≡ fits b state
      go true e = rw (same_stage state e, checkpoints, agree.processes)
      go false e = rw (e, sym checkpoints ∙ e, agree.processes)

-- ---- the calls

pub receive_is_local : ReceiveIsLocal
unfolding receive_question state_after lengths_after bytes_after
receive_is_local tables tables' state s out same =
    let j : ℕ = state.me.0 - 1 in
    let own : Own = own_of tables j in
    let own' : Own = own_of tables' j in
    let outgoing : InitiatorStep → Outgoing = λ x. x.outgoing in
    same_received (λ n. is_named n state.me.0) (is_purpose state.purpose) (λ n. message_question n state s) outgoing out
    state (λ x. x.state) (tables_question tables) (tables_question tables') tables.shape.n tables'.shape.n
    (fits own state) (fits own' state) (step_on tables state s) (step_on tables' state s)
    same.accepted.passed same.accepted'.passed same.agree.processes
    (λ h.
    let is = both_own same (named_there tables.shape.n state.me.0 h) in (
      same_fits own own' j is.0 is.1 same.agree state,
      same_step own own' j is.0 is.1 same.agree state (read_by tables.shape.n state s)
          ∙ ap (λ (n : ℕ). step own' state (read_by n state s)) same.agree.processes,
    ))

pub begin_is_local : BeginIsLocal
unfolding begin_question state_begun lengths_begun bytes_begun
begin_is_local tables tables' me purpose out same =
    let j : ℕ = me.0 - 1 in
    let outgoing : InitiatorStep → Outgoing = λ x. x.outgoing in
    same_call (λ n. is_named n me.0) no_initiator out (tables_question tables) (tables_question tables')
    tables.shape.n tables'.shape.n same.accepted.passed same.accepted'.passed same.agree.processes (λ x. x.state) outgoing
    (begin_on tables me purpose) (begin_on tables' me purpose)
    (λ n x. ask 11 (is_purpose purpose) then λ _. room_question x.outgoing out)
    (λ h.
    let is = both_own same (named_there tables.shape.n me.0 h) in
    same_begin (own_of tables j) (own_of tables' j) j is.0 is.1 same.agree me purpose)
