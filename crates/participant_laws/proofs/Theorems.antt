-- The statements of `specs/Statements.antt` hold.
-- Assumes nothing.
use Rattle.participant_laws.specs.Statements.{
  AcceptedCall,
  FirstFits,
  StepFits,
  NeverRaised,
  StaysAbove,
  ReportIsDiff,
  ReportBringsRow,
  EndIsSilent,
  ReceiveIsLocal,
  FirstIsLocal,
}
use Rattle.participant_laws.proofs.Calls
use Rattle.participant_laws.proofs.Fits
use Rattle.participant_laws.proofs.Falls
use Rattle.participant_laws.proofs.Report
use Rattle.participant_laws.proofs.Local

pub accepted_call : AcceptedCall
accepted_call = Calls.accepted_call

pub first_fits : FirstFits
first_fits = Fits.first_fits

pub step_fits : StepFits
step_fits = Fits.step_fits

pub never_raised : NeverRaised
never_raised = Falls.never_raised

pub stays_above : StaysAbove
stays_above = Falls.stays_above

pub report_is_diff : ReportIsDiff
report_is_diff = Report.report_is_diff

pub report_brings_row : ReportBringsRow
report_brings_row = Report.report_brings_row

pub end_is_silent : EndIsSilent
end_is_silent = Report.end_is_silent

pub receive_is_local : ReceiveIsLocal
receive_is_local = Local.receive_is_local

pub first_is_local : FirstIsLocal
first_is_local = Local.first_is_local
