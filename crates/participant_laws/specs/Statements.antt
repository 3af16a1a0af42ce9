-- The laws of the participant's machine: what an accepted step does, and on what it depends.
use Rattle.std.specs.Prelude.{◌≡◌, true, false, List, ℕ, ◌-◌, ◌≤◌, ◌<◌, length, eqb}
use Rattle.book.specs.declared.Count.{Count}
use Rattle.book.specs.declared.Process.{Process}
use Rattle.book.specs.Bounds.{most_processes}
use Rattle.book.specs.Lent.{Tables}
use Rattle.book.specs.Accepted.{AreAccepted}
use Rattle.line_theory.specs.Sets.{View}
use Rattle.line_theory.specs.Search.{sent_to, line}
use Rattle.line_theory.specs.OfTables.{view_of}
use Rattle.consistency.specs.Known.{counters}
use Rattle.matrix.specs.Entries.{diff, patch}
use Rattle.message.specs.declared.Message.{Message}
use Rattle.mail.specs.declared.Outgoing.{Outgoing}
use Rattle.mail.specs.Outgoing.{goes_to, message_to}
use Rattle.machine.specs.Own.{Own}
use Rattle.machine_laws.specs.Own.{IsOwn, SameTo}
use Rattle.participant.specs.declared.Participant.{Participant}
use Rattle.participant.specs.Fits.{fits}
use Rattle.participant.specs.Step.{first, step}
use Rattle.participant.specs.Calls.{
  first_question,
  first_state,
  own_of_state,
  read_by,
  receive_question,
  state_after,
  lengths_after,
  bytes_after,
}
use Rattle.participant_laws.specs.Accepts.{Accepts, ends_it}

-- A call that no question refuses takes a step on an accepted message.
abbrev pub AcceptedCall : Type 0
AcceptedCall =
    (t : Tables) (state : Participant) (s out : List ℕ) → length t.shape.counts ≡ most_processes
    → receive_question t state s out ≡ 0 → Accepts (own_of_state t state) state (read_by t.shape.n state s)

-- ---- question 13 is kept

-- A first state fits the tables.
abbrev pub FirstFits : Type 0
FirstFits =
    (own : Own) (me initiator : Process) (purpose : ℕ) → IsOwn own (me.0 - 1)
    → fits own (first own me initiator purpose) ≡ true

-- After an accepted step the state fits them again.
abbrev pub StepFits : Type 0
StepFits =
    (own : Own) (state : Participant) (m : Message) → Accepts own state m → fits own (step own state m).state ≡ true

-- ---- what a step does

-- An accepted step raises neither the candidate nor any entry of the row or the column.
abbrev pub NeverRaised : Type 0
NeverRaised =
    (own : Own) (state : Participant) (m : Message) → Accepts own state m
    → let after : Participant = (step own state m).state in
    (after.candidate.0 ≤ state.candidate.0)
    × ((p : ℕ) → p < most_processes → counters after.row p ≤ counters state.row p)
    × ((p : ℕ) → p < most_processes → counters after.column p ≤ counters state.column p)

-- As long as what is then known to be sent to it is at or above what the line's checkpoints have sent to it, a searching
-- participant stays at or above the line.
abbrev pub StaysAbove : Type 0
StaysAbove =
    (t : Tables) (state : Participant) (m : Message) → AreAccepted t → let own : Own = own_of_state t state in
    let me : ℕ = state.me.0 - 1 in
    let v : View = view_of t in
    Accepts own state m → (m.head.purpose ≡ 2 → ⊥) → line v me ≤ state.candidate.0
    → ((p : ℕ) → p < t.shape.n → sent_to v (line v) me p ≤ counters (patch state.column m.news) p)
    → line v me ≤ (step own state m).state.candidate.0

-- ---- what is sent

-- A step that does not end the search sends one message, to the initiator; it tells what differs between the candidate's
-- sent counters and those reported before,
abbrev pub ReportIsDiff : Type 0
ReportIsDiff =
    (own : Own) (state : Participant) (m : Message) → Accepts own state m → ends_it m ≡ false
    → let initiator : ℕ = state.initiator.0 - 1 in
    let out : Outgoing = (step own state m).outgoing in
    ((p : ℕ) → p < most_processes → goes_to out p ≡ eqb p initiator)
    × ((message_to out initiator).news ≡ diff (step own state m).state.row state.row)

-- so that who holds the row before and gets it has the row after.
abbrev pub ReportBringsRow : Type 0
ReportBringsRow =
    (own : Own) (state : Participant) (m : Message) → Accepts own state m → ends_it m ≡ false
    → let news : List Count = (message_to (step own state m).outgoing (state.initiator.0 - 1)).news in
    (p : ℕ) → p < most_processes → counters (patch state.row news) p ≡ counters (step own state m).state.row p

-- A step that ends it sends nothing.
abbrev pub EndIsSilent : Type 0
EndIsSilent =
    (own : Own) (state : Participant) (m : Message) → ends_it m ≡ true
    → (p : ℕ) → p < most_processes → goes_to (step own state m).outgoing p ≡ false

-- ---- on what a call depends

-- Locality: what a participant answers, writes and becomes depends on the tables by its own checkpoints alone.
abbrev pub ReceiveIsLocal : Type 0
ReceiveIsLocal =
    (tables tables' : Tables) (state : Participant) (s out : List ℕ)
    → SameTo (state.me.0 - 1) tables tables' → (receive_question tables state s out ≡ receive_question tables' state s out)
    × (state_after tables state s out ≡ state_after tables' state s out)
    × (lengths_after tables state s out ≡ lengths_after tables' state s out)
    × (bytes_after tables state s out ≡ bytes_after tables' state s out)

-- The same of its first state.
abbrev pub FirstIsLocal : Type 0
FirstIsLocal =
    (tables tables' : Tables) (me initiator : Process) (purpose : ℕ)
    → SameTo (me.0 - 1) tables tables'
    → (first_question tables me.0 initiator.0 purpose
    ≡ first_question tables' me.0 initiator.0 purpose)
    × (first_state tables me initiator purpose ≡ first_state tables' me initiator purpose)
