-- Document 01, "Session": beginning a search, and delivering a message, from the machines' steps; what a call then puts on
-- the strands is messages as data, addressed by strand. Processes count from 0.
use Rattle.std.specs.Prelude.{List, ℕ, suc, ◌+◌, ◌-◌, set}
use Rattle.book.specs.Lent.{Tables}
use Rattle.book.specs.declared.Process.{Process}
use Rattle.book.specs.Bounds.{most_processes}
use Rattle.lists.specs.Over.{tab}
use Rattle.lists.specs.Pick.{pick}
use Rattle.matrix.specs.Matrix.{row}
use Rattle.message.specs.declared.Message.{Message}
use Rattle.mail.specs.declared.Outgoing.{Outgoing}
use Rattle.mail.specs.Outgoing.{goes_to, no_lengths}
use Rattle.machine.specs.Own.{own_of}
use Rattle.machine.specs.Named.{is_participant}
use Rattle.machine.specs.Sends.{other_head, nothing, only_to}
use Rattle.participant.specs.declared.Participant.{Participant}
use Rattle.participant.specs.declared.ParticipantStep.{ParticipantStep}
use Rattle.participant.specs.Step as participant
use Rattle.participant.specs.Calls as participant_calls
use Rattle.initiator.specs.declared.Initiator.{Initiator}
use Rattle.initiator.specs.declared.InitiatorStep.{InitiatorStep}
use Rattle.initiator.specs.Begin.{begin}
use Rattle.initiator.specs.Step as initiator
use Rattle.initiator.specs.Calls as initiator_calls
use Rattle.strands.specs.Strands.{lengths_posted}
use Rattle.session.specs.declared.Session.{Session}
use Rattle.session.specs.declared.Turned.{Turned}
use Rattle.session.specs.declared.Waiting.{Waiting}
use Rattle.session.specs.declared.Waiting.TheVariants.{Nothing, Asking, Ending, Report, Stray}
use Rattle.session.specs.Workers.{initiator_of, participant_at}

-- ---- the start

-- the machine at place k before the invitation: a participant's first state, or all zero
abbrev pub place_at_start : Tables → Process → ℕ → ℕ → Participant
place_at_start tables initiator purpose k =
    pick (is_participant tables.shape.n (initiator.0 - 1) k)
    (participant.first (own_of tables k) (record { 0 = suc k }) initiator purpose)
    participant_calls.no_participant

-- the initiator begins; nothing waits yet, and nothing was delivered
unfoldable pub begun : Tables → Process → ℕ → Turned
begun tables initiator purpose =
    let next : InitiatorStep = begin (own_of tables (initiator.0 - 1)) initiator purpose in
    record {
      session =
          record {
            n = tables.shape.n;
            initiator = initiator;
            purpose = purpose;
            machine = next.state;
            participants = tab most_processes (place_at_start tables initiator purpose);
            lengths = no_lengths;
            delivered = 0;
          };
      outgoing = next.outgoing;
    }

-- ---- a turn

-- further on in the same search: n, the names and the purpose stay
abbrev pub onward : Session → Initiator → List Participant → (lengths : List ℕ) (delivered : ℕ) → Session
onward session machine participants lengths delivered =
    record {
      n = session.n;
      initiator = session.initiator;
      purpose = session.purpose;
      machine = machine;
      participants = participants;
      lengths = lengths;
      delivered = delivered;
    }

-- the session after the message on k's strand was delivered: the strand is empty, and the delivery counted
abbrev pub delivered_on : Session → ℕ → Initiator → List Participant → Session
delivered_on session k machine participants =
    onward session machine participants (set session.lengths k 0) (session.delivered + 1)

-- what participant k sends goes to the initiator, so it is put on k's own strand
unfoldable pub on_strand : ℕ → ℕ → Outgoing → Outgoing
on_strand k initiator o =
    pick (goes_to o initiator) (only_to o.head k (row o.news initiator)) (nothing o.head)

-- participant k takes the step that a message asks for
abbrev pub deliver_message : Tables → Session → ℕ → Message → Turned
deliver_message tables session k message =
    let next : ParticipantStep = participant.step (own_of tables k) (participant_at session k) message in
    record {
      session = delivered_on session k session.machine (set session.participants k next.state);
      outgoing = on_strand k (initiator_of session) next.outgoing;
    }

-- and the message is the one that the bytes hold
unfoldable pub deliver_down : Tables → Session → ℕ → List ℕ → Turned
deliver_down tables session k s =
    deliver_message tables session k (participant_calls.read_by tables.shape.n (participant_at session k) s)

-- the initiator does; what it sends to each participant is put on that one's strand
unfoldable pub deliver_up : Tables → Session → ℕ → List ℕ → Turned
deliver_up tables session k s =
    let next : InitiatorStep =
    initiator.step (own_of tables (initiator_of session)) session.machine
    (initiator_calls.read_by tables.shape.n session.machine s) in
    record { session = delivered_on session k next.state session.participants; outgoing = next.outgoing }

-- nothing is delivered
abbrev pub as_before : Session → Turned
as_before session = record { session = session; outgoing = nothing (other_head session.purpose session.initiator) }

-- "A turn names a participant and delivers that message", by what the strand holds
abbrev pub deliver : Tables → Session → ℕ → List ℕ → Waiting → Turned
deliver tables session k s Nothing = as_before session
deliver tables session k s Asking = deliver_down tables session k s
deliver tables session k s Ending = deliver_down tables session k s
deliver tables session k s Report = deliver_up tables session k s
deliver tables session k s Stray = as_before session

-- "the replies are then waiting"
unfoldable pub with_posted : Turned → Session
with_posted turned =
    let session : Session = turned.session in
    onward session session.machine session.participants (lengths_posted turned.outgoing session.lengths)
    session.delivered
