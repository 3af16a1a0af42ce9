-- The statements of `specs/Statements.antt` hold.
-- Assumes nothing.
use Rattle.journal_laws.specs.Statements.{
  BuiltIsAccepted,
  BuiltIsRead,
  ChannelLaw,
  RunningIsCounted,
  CountsBegin,
  OwnCountsChange,
  OtherCountsStay,
  EventsReadBack,
  QuestionOfWritten,
  AcceptedIsWritten,
}
use Rattle.journal_laws.proofs.Built
use Rattle.journal_laws.proofs.Channels
use Rattle.journal_laws.proofs.Running
use Rattle.journal_laws.proofs.Whole
use Rattle.journal_laws.proofs.Written

pub built_is_accepted : BuiltIsAccepted
built_is_accepted = Built.built_is_accepted

pub built_is_read : BuiltIsRead
built_is_read = Built.built_is_read

pub channel_law : ChannelLaw
channel_law = Channels.channel_law

pub running_is_counted : RunningIsCounted
running_is_counted = Running.running_is_counted

pub counts_begin : CountsBegin
counts_begin = Running.counts_begin

pub own_counts_change : OwnCountsChange
own_counts_change = Running.own_counts_change

pub other_counts_stay : OtherCountsStay
other_counts_stay = Running.other_counts_stay

pub events_read_back : EventsReadBack
events_read_back = Written.events_read_back

pub question_of_written : QuestionOfWritten
question_of_written = Written.question_of_written

pub accepted_is_written : AcceptedIsWritten
accepted_is_written = Whole.accepted_is_written
