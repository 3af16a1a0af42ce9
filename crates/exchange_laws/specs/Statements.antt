-- What a machine sends passes 14 to 16 at its receiver, when the receiver holds what the sender believes it holds. A message
-- is the difference between what its receiver holds and what it should hold, and receiving it makes them the same.
use Rattle.std.specs.Prelude.{◌≡◌, true, false, List, ℕ, ◌-◌, ◌≤◌}
use Rattle.book.specs.declared.Count.{Count}
use Rattle.book.specs.declared.Process.{Process}
use Rattle.book.specs.Bounds.{most_processes}
use Rattle.matrix.specs.Matrix.{row, column}
use Rattle.message.specs.declared.Message.{Message}
use Rattle.machine.specs.Own.{Own}
use Rattle.machine.specs.Sends.{is_termination}
use Rattle.machine.specs.Flags.{flag}
use Rattle.participant.specs.declared.Participant.{Participant}
use Rattle.participant.specs.declared.Stage.TheVariants.{Before}
use Rattle.participant.specs.Step as participant
use Rattle.participant_laws.specs.Accepts.{Accepts, ends_it}
use Rattle.initiator.specs.declared.Initiator.{Initiator}
use Rattle.initiator.specs.Begin.{begin_search, begin_restart}
use Rattle.initiator.specs.Step as initiator
use Rattle.initiator.specs.Step.{take_report, polled, poll, terminate}
use Rattle.exchange_laws.specs.Ends.{SameEntries, message_down, PassesDown, TakesPart, IsInvited, SearchesWith, HoldsCopy, message_up, PassesUp, WaitsFor}

-- ---- messages pass

-- The invitation to a search passes at a participant to which nothing is known.
abbrev pub InvitationPasses : Type 0
InvitationPasses =
    (own : Own) (me : Process) (purpose : ℕ) (receiver : Participant) → IsInvited own me purpose receiver
    → PassesDown own.n (begin_search own me purpose).outgoing receiver

-- The invitation to a restart passes at every participant that awaits it.
abbrev pub RestartPasses : Type 0
RestartPasses =
    (n : ℕ) (me : Process) (receiver : Participant) → n ≤ most_processes → TakesPart n me 2 Before receiver
    → PassesDown n (begin_restart n me 2).outgoing receiver

-- A report passes at the initiator that awaits it and holds the row reported before.
abbrev pub ReportPasses : Type 0
ReportPasses =
    (own : Own) (sender : Participant) (m : Message) (receiver : Initiator) → Accepts own sender m → ends_it m ≡ false
    → WaitsFor own.n sender receiver → PassesUp own.n (participant.step own sender m).outgoing receiver

-- A poll passes at the searching participant that holds the copy's column, and is no termination.
abbrev pub PollPasses : Type 0
PollPasses =
    (state : Initiator) (receiver : Participant) → SearchesWith state receiver → HoldsCopy state receiver
    → flag (polled state) (receiver.me.0 - 1) ≡ true
    → PassesDown state.n (poll state).outgoing receiver
    × (is_termination (message_down (poll state).outgoing receiver) ≡ false)

-- A termination passes at every searching participant, and is one there.
abbrev pub TerminationPasses : Type 0
TerminationPasses =
    (state : Initiator) (receiver : Participant) → SearchesWith state receiver
    → PassesDown state.n (terminate state).outgoing receiver
    × (is_termination (message_down (terminate state).outgoing receiver) ≡ true)

-- ---- and are taken in

-- After the invitation the participant's column is the matrix's,
abbrev pub InvitationTaken : Type 0
InvitationTaken =
    (own : Own) (me : Process) (purpose : ℕ) (receiver : Participant) → IsInvited own me purpose receiver
    → (its : Own)
    → SameEntries (participant.step its receiver (message_down (begin_search own me purpose).outgoing receiver)).state.column
    (column (begin_search own me purpose).state.matrix (receiver.me.0 - 1))

-- and so it is after a poll.
abbrev pub PollTaken : Type 0
PollTaken =
    (state : Initiator) (receiver : Participant) → SearchesWith state receiver → HoldsCopy state receiver
    → flag (polled state) (receiver.me.0 - 1) ≡ true
    → (its : Own)
    → SameEntries (participant.step its receiver (message_down (poll state).outgoing receiver)).state.column
    (column state.matrix (receiver.me.0 - 1))

-- After a report the participant's row in the matrix is the participant's row, once it is taken in and after the whole step.
abbrev pub ReportTaken : Type 0
ReportTaken =
    (own : Own) (sender : Participant) (m : Message) (receiver : Initiator) → Accepts own sender m → ends_it m ≡ false
    → WaitsFor own.n sender receiver
    → let report : Message = message_up (participant.step own sender m).outgoing receiver in
    let reported : List Count = (participant.step own sender m).state.row in
    SameEntries (row (take_report receiver report).matrix (sender.me.0 - 1)) reported
    × ((its : Own) → SameEntries (row (initiator.step its receiver report).state.matrix (sender.me.0 - 1)) reported)
