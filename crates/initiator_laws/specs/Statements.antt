-- The laws of the initiator's machine: what an accepted step does, and on what it depends.
use Rattle.std.specs.Prelude.{◌≡◌, true, ◌&&◌, not, List, ℕ, ◌+◌, ◌-◌, ◌≤◌, ◌<◌, length, eqb}
use Rattle.book.specs.declared.Process.{Process}
use Rattle.book.specs.Bounds.{most_processes}
use Rattle.book.specs.Lent.{Tables}
use Rattle.book.specs.Accepted.{AreAccepted}
use Rattle.line_theory.specs.Sets.{View}
use Rattle.line_theory.specs.Search.{sent_to, line}
use Rattle.line_theory.specs.OfTables.{view_of}
use Rattle.lists.specs.Pick.{pick}
use Rattle.matrix.specs.Matrix.{entry, column, not_known_row}
use Rattle.matrix.specs.Entries.{diff, patch}
use Rattle.message.specs.declared.Message.{Message}
use Rattle.message.specs.Layout.{pair_count}
use Rattle.mail.specs.Outgoing.{goes_to, message_to}
use Rattle.machine.specs.Own.{Own, own_of}
use Rattle.machine.specs.Named.{is_participant, tally_limit}
use Rattle.machine_laws.specs.Own.{IsOwn, SameTo}
use Rattle.consistency.specs.Known.{counters}
use Rattle.machine.specs.Flags.{someone, participants}
use Rattle.initiator.specs.declared.Initiator.{Initiator}
use Rattle.initiator.specs.Fits.{fits}
use Rattle.initiator.specs.Begin.{begin, begin_search}
use Rattle.initiator.specs.Step.{step_back, poll, terminate, step}
use Rattle.initiator.specs.Calls.{
  begin_question,
  state_begun,
  lengths_begun,
  bytes_begun,
  own_of_state,
  read_by,
  receive_question,
  state_after,
  lengths_after,
  bytes_after,
}
use Rattle.initiator_laws.specs.Accepts.{Accepts, sends_poll, ColumnFell}

-- A call that no question refuses takes a step on an accepted message.
abbrev pub AcceptedCall : Type 0
AcceptedCall =
    (t : Tables) (state : Initiator) (s out : List ℕ) → length t.shape.counts ≡ most_processes
    → receive_question t state s out ≡ 0 → Accepts (own_of_state t state) state (read_by t.shape.n state s)

-- ---- question 13 is kept

-- An initiator that has begun fits the tables.
abbrev pub BeginFits : Type 0
BeginFits =
    (own : Own) (me : Process) (purpose : ℕ) → IsOwn own (me.0 - 1)
    → fits own (begin own me purpose).state ≡ true

-- So does the state that an accepted call answers.
abbrev pub BegunFits : Type 0
BegunFits =
    (t : Tables) (me : Process) (purpose : ℕ) (out : List ℕ)
    → length t.shape.counts ≡ most_processes → begin_question t me purpose out ≡ 0
    → fits (own_of t (me.0 - 1)) (state_begun t me purpose out) ≡ true

-- After an accepted step it fits them again, unless the count of rounds has reached its limit.
abbrev pub StepFits : Type 0
StepFits =
    (own : Own) (state : Initiator) (m : Message) → Accepts own state m → (step own state m).state.rounds < tally_limit
    → fits own (step own state m).state ≡ true

-- ---- what a step does

-- An accepted step raises neither the candidate nor any entry of the matrix or the copy.
abbrev pub NeverRaised : Type 0
NeverRaised =
    (own : Own) (state : Initiator) (m : Message) → Accepts own state m
    → let after : Initiator = (step own state m).state in
    (after.candidate.0 ≤ state.candidate.0)
    × ((j p : ℕ) → j < most_processes → p < most_processes → entry after.matrix j p ≤ entry state.matrix j p)
    × ((j p : ℕ) → j < most_processes → p < most_processes → entry after.copy j p ≤ entry state.copy j p)

-- A step counts one round more exactly when it sends a poll.
abbrev pub Rounds : Type 0
Rounds =
    (own : Own) (state : Initiator) (m : Message)
    → (step own state m).state.rounds ≡ state.rounds + pick (sends_poll own state m) 1 0

-- Beginning counts one exactly when somebody is invited to a search.
abbrev pub FirstRound : Type 0
FirstRound =
    (own : Own) (me : Process) (purpose : ℕ)
    → (begin own me purpose).state.rounds
    ≡ pick (not (eqb purpose 2) && someone (participants own.n (me.0 - 1))) 1 0

-- As long as what is known to be sent to the initiator is at or above what the line's checkpoints have sent to it, its step
-- back stays at or above the line.
abbrev pub StaysAbove : Type 0
StaysAbove =
    (t : Tables) (state : Initiator) → AreAccepted t → state.me.0 - 1 < t.shape.n → let me : ℕ = state.me.0 - 1 in
    let v : View = view_of t in
    ((p : ℕ) → p < t.shape.n → sent_to v (line v) me p ≤ counters (column state.matrix me) p)
    → line v me ≤ (step_back (own_of t me) state).candidate.0

-- ---- what is sent

-- A poll tells a participant what differs between its column of the matrix and of the copy,
abbrev pub PollIsDiff : Type 0
PollIsDiff =
    (state : Initiator) (p : ℕ) → p < most_processes
    → (message_to (poll state).outgoing p).news ≡ diff (column state.matrix p) (column state.copy p)

-- so that who holds the copy's column has the matrix's afterwards.
abbrev pub PollBringsColumn : Type 0
PollBringsColumn =
    (state : Initiator) (p : ℕ) → p < most_processes → ColumnFell state p
    → patch (column state.copy p) (message_to (poll state).outgoing p).news ≡ column state.matrix p

-- An invitation tells a participant what differs between its column and a row that is not known.
abbrev pub InvitationIsDiff : Type 0
InvitationIsDiff =
    (own : Own) (me : Process) (purpose p : ℕ) → IsOwn own (me.0 - 1) → is_participant own.n (me.0 - 1) p ≡ true
    → (message_to (begin_search own me purpose).outgoing p).news
    ≡ diff (column (begin_search own me purpose).state.matrix p) (not_known_row own.n p)

-- A termination goes to every participant, and has no pairs.
abbrev pub TerminationIsEmpty : Type 0
TerminationIsEmpty =
    (state : Initiator) (p : ℕ) → p < most_processes
    → (goes_to (terminate state).outgoing p ≡ is_participant state.n (state.me.0 - 1) p)
    × (pair_count (message_to (terminate state).outgoing p).news ≡ 0)

-- ---- on what a call depends

-- Locality: what an initiator answers, writes and becomes depends on the tables by its own checkpoints alone.
abbrev pub ReceiveIsLocal : Type 0
ReceiveIsLocal =
    (tables tables' : Tables) (state : Initiator) (s out : List ℕ)
    → SameTo (state.me.0 - 1) tables tables' → (receive_question tables state s out ≡ receive_question tables' state s out)
    × (state_after tables state s out ≡ state_after tables' state s out)
    × (lengths_after tables state s out ≡ lengths_after tables' state s out)
    × (bytes_after tables state s out ≡ bytes_after tables' state s out)

-- The same where it begins.
abbrev pub BeginIsLocal : Type 0
BeginIsLocal =
    (tables tables' : Tables) (me : Process) (purpose : ℕ) (out : List ℕ)
    → SameTo (me.0 - 1) tables tables' → (begin_question tables me purpose out ≡ begin_question tables' me purpose out)
    × (state_begun tables me purpose out ≡ state_begun tables' me purpose out)
    × (lengths_begun tables me purpose out ≡ lengths_begun tables' me purpose out)
    × (bytes_begun tables me purpose out ≡ bytes_begun tables' me purpose out)
