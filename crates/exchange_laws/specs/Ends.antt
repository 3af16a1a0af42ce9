-- The ends of a strand: what the receiver of a message holds, and when the message passes there.
use Rattle.std.specs.Prelude.{◌≡◌, Bool, true, false, ◌&&◌, not, List, ℕ, ◌-◌, ◌≤◌, ◌<◌, eqb}
use Rattle.book.specs.declared.Count.{Count}
use Rattle.book.specs.declared.Process.{Process}
use Rattle.book.specs.Bounds.{most_processes}
use Rattle.consistency.specs.Known.{counters}
use Rattle.matrix.specs.Matrix.{row, column, not_known_row}
use Rattle.matrix.specs.Entries.{rest_zero}
use Rattle.message.specs.declared.Message.{Message}
use Rattle.message.specs.Layout.{message_bytes}
use Rattle.book.specs.Names.{is_purpose}
use Rattle.mail.specs.declared.Outgoing.{Outgoing}
use Rattle.mail.specs.Outgoing.{goes_to, message_to}
use Rattle.machine.specs.Own.{Own}
use Rattle.machine.specs.Named.{participant_named}
use Rattle.machine.specs.Flags.{flag}
use Rattle.machine_laws.specs.Own.{IsOwn}
use Rattle.participant.specs.declared.Participant.{Participant}
use Rattle.participant.specs.declared.Stage.{Stage}
use Rattle.participant.specs.declared.Stage.TheVariants.{Before, Searching}
use Rattle.participant.specs.Calls as participant
use Rattle.initiator.specs.declared.Initiator.{Initiator}
use Rattle.initiator.specs.Calls as initiator
use Rattle.initiator_laws.specs.Accepts.{ColumnFell}

-- "Purposes 1 and 3 search."
abbrev pub is_search : ℕ → Bool
is_search purpose = is_purpose purpose && not (eqb purpose 2)

abbrev pub SameEntries : List Count → List Count → Type 0
SameEntries a b = (p : ℕ) → p < most_processes → counters a p ≡ counters b p

-- ---- a message to a participant

abbrev pub message_down : Outgoing → Participant → Message
message_down out receiver = message_to out (receiver.me.0 - 1)

-- the participant gets a message, reads it as it was written, and it passes 14 to 16
pub record PassesDown (n : ℕ) (out : Outgoing) (receiver : Participant) : Type 0 where
  pub sent : goes_to out (receiver.me.0 - 1) ≡ true
  pub read : participant.read_by n receiver (message_bytes (message_down out receiver)) ≡ message_down out receiver
  pub passes : participant.message_question n receiver (message_bytes (message_down out receiver)) ≡ 0

-- a participant of the search that this process began with this purpose, and how far it is
pub record TakesPart (n : ℕ) (initiator : Process) (purpose : ℕ) (stage : Stage) (receiver : Participant) : Type 0 where
  pub named : participant_named n receiver.me.0 receiver.initiator.0 ≡ true
  pub initiated : receiver.initiator.0 ≡ initiator.0
  pub same_purpose : receiver.purpose ≡ purpose
  pub in_stage : receiver.stage ≡ stage

-- a search begins on these checkpoints, and the participant awaits its invitation: nothing is known to it
pub record IsInvited (own : Own) (me : Process) (purpose : ℕ) (receiver : Participant) : Type 0 where
  pub own_is : IsOwn own (me.0 - 1)
  pub searching : is_search purpose ≡ true
  pub part : TakesPart own.n me purpose Before receiver
  pub unknown : SameEntries receiver.column (not_known_row own.n (receiver.me.0 - 1))

-- the participant searches with this initiator
pub record SearchesWith (state : Initiator) (receiver : Participant) : Type 0 where
  pub most : state.n ≤ most_processes
  pub searching : is_search state.purpose ≡ true
  pub part : TakesPart state.n state.me state.purpose Searching receiver

-- it holds what the initiator copied of its column, which has only fallen since; diagonal and absent entries are zero
pub record HoldsCopy (state : Initiator) (receiver : Participant) : Type 0 where
  pub held : SameEntries receiver.column (column state.copy (receiver.me.0 - 1))
  pub fell : ColumnFell state (receiver.me.0 - 1)
  pub zeros : rest_zero state.n (receiver.me.0 - 1) (column state.copy (receiver.me.0 - 1)) ≡ true

-- ---- a message to the initiator

abbrev pub message_up : Outgoing → Initiator → Message
message_up out receiver = message_to out (receiver.me.0 - 1)

-- the initiator gets a message, reads it as it was written, and it passes 14 to 16
pub record PassesUp (n : ℕ) (out : Outgoing) (receiver : Initiator) : Type 0 where
  pub sent : goes_to out (receiver.me.0 - 1) ≡ true
  pub read : initiator.read_by n receiver (message_bytes (message_up out receiver)) ≡ message_up out receiver
  pub passes : initiator.message_question n receiver (message_bytes (message_up out receiver)) ≡ 0

-- the initiator of a participant's search waits for its report, and holds the row that it last reported
pub record WaitsFor (n : ℕ) (sender : Participant) (receiver : Initiator) : Type 0 where
  pub processes : receiver.n ≡ n
  pub initiated : receiver.me.0 ≡ sender.initiator.0
  pub same_purpose : receiver.purpose ≡ sender.purpose
  pub waiting : receiver.ended ≡ false
  pub awaited : flag receiver.awaited (sender.me.0 - 1) ≡ true
  pub held : SameEntries (row receiver.matrix (sender.me.0 - 1)) sender.row
