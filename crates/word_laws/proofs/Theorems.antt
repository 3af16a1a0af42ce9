-- The statements of `specs/Statements.antt` hold.
-- Assumes nothing.
use Rattle.word_laws.specs.Statements.{
  ShapeBack,
  SetBack,
  ParticipantBack,
  InitiatorBack,
  SessionBack,
  ShapeForm,
  SetForm,
  ParticipantForm,
  InitiatorForm,
  SessionForm,
  ParticipantUndecoded,
  InitiatorUndecoded,
  SessionUndecoded,
}
use Rattle.word_laws.proofs.Plain
use Rattle.word_laws.proofs.Participants
use Rattle.word_laws.proofs.Initiators
use Rattle.word_laws.proofs.Sessions
use Rattle.word_laws.proofs.Refusals

pub shape_back : ShapeBack
shape_back = Plain.shape_back

pub set_back : SetBack
set_back = Plain.set_back

pub participant_back : ParticipantBack
participant_back = Participants.participant_back

pub initiator_back : InitiatorBack
initiator_back = Initiators.initiator_back

pub session_back : SessionBack
session_back = Sessions.session_back

pub shape_form : ShapeForm
shape_form = Plain.shape_form

pub set_form : SetForm
set_form = Plain.set_form

pub participant_form : ParticipantForm
participant_form = Participants.participant_form

pub initiator_form : InitiatorForm
initiator_form = Initiators.initiator_form

pub session_form : SessionForm
session_form = Sessions.session_form

pub participant_undecoded : ParticipantUndecoded
participant_undecoded = Refusals.participant_undecoded

pub initiator_undecoded : InitiatorUndecoded
initiator_undecoded = Refusals.initiator_undecoded

pub session_undecoded : SessionUndecoded
session_undecoded = Refusals.session_undecoded
