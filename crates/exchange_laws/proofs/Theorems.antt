-- The statements of `specs/Statements.antt` hold.
-- Assumes nothing.
use Rattle.exchange_laws.specs.Statements.{
  InvitationPasses,
  RestartPasses,
  ReportPasses,
  PollPasses,
  TerminationPasses,
  InvitationTaken,
  PollTaken,
  ReportTaken,
}
use Rattle.exchange_laws.proofs.Invitations
use Rattle.exchange_laws.proofs.Polls
use Rattle.exchange_laws.proofs.Reports

pub invitation_passes : InvitationPasses
invitation_passes = Invitations.invitation_passes

pub restart_passes : RestartPasses
restart_passes = Invitations.restart_passes

pub report_passes : ReportPasses
report_passes = Reports.report_passes

pub poll_passes : PollPasses
poll_passes = Polls.poll_passes

pub termination_passes : TerminationPasses
termination_passes = Polls.termination_passes

pub invitation_taken : InvitationTaken
invitation_taken = Invitations.invitation_taken

pub poll_taken : PollTaken
poll_taken = Polls.poll_taken

pub report_taken : ReportTaken
report_taken = Reports.report_taken
