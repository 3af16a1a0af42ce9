-- The statements of `specs/Statements.antt` hold.
-- Assumes nothing.
use Prim.Native.Nat.{◌-◌}
use Rattle.matrix.specs.Matrix.{column}
use Rattle.machine_laws.proofs.Theorems.{stays_above_line}
use Rattle.initiator.specs.Step.{step_back}
use Rattle.initiator_laws.specs.Statements.{
  AcceptedCall,
  BeginFits,
  BegunFits,
  StepFits,
  NeverRaised,
  Rounds,
  FirstRound,
  StaysAbove,
  PollIsDiff,
  PollBringsColumn,
  InvitationIsDiff,
  TerminationIsEmpty,
  ReceiveIsLocal,
  BeginIsLocal,
}
use Rattle.initiator_laws.proofs.Calls
use Rattle.initiator_laws.proofs.Begun
use Rattle.initiator_laws.proofs.Stepped
use Rattle.initiator_laws.proofs.Sends
use Rattle.initiator_laws.proofs.Local

pub accepted_call : AcceptedCall
accepted_call = Calls.accepted_call

pub begin_fits : BeginFits
begin_fits = Begun.begin_fits

pub begun_fits : BegunFits
begun_fits = Calls.begun_fits

pub step_fits : StepFits
step_fits = Stepped.step_fits

pub never_raised : NeverRaised
never_raised = Stepped.never_raised

pub rounds : Rounds
rounds = Stepped.rounds

pub first_round : FirstRound
first_round = Begun.first_round

pub stays_above : StaysAbove
unfolding step_back
stays_above t state accepted present =
    stays_above_line t (state.me.0 - 1) (column state.matrix (state.me.0 - 1)) accepted present

pub poll_is_diff : PollIsDiff
poll_is_diff = Sends.poll_is_diff

pub poll_brings_column : PollBringsColumn
poll_brings_column = Sends.poll_brings_column

pub invitation_is_diff : InvitationIsDiff
invitation_is_diff = Sends.invitation_is_diff

pub termination_is_empty : TerminationIsEmpty
termination_is_empty = Sends.termination_is_empty

pub receive_is_local : ReceiveIsLocal
receive_is_local = Local.receive_is_local

pub begin_is_local : BeginIsLocal
begin_is_local = Local.begin_is_local
