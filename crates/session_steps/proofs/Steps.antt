-- What the steps make, as the definitions have it.
use mathlib.Core.Path.{◌≡◌, ap, ◌∙◌}
use Rattle.std.specs.Prelude.{Option, Some, None, IsSome}
use mathlib.Core.Bool.{Bool, true, false}
use mathlib.Core.List.{List, []}
use Prim.Native.Nat.{ℕ, suc, ◌-◌, ◌≤◌}
use native.Mathlib.Omega.{arith}
use lib.ListN.{set, replicate}
use Rattle.book.specs.Lent.{Tables, lent}
use Rattle.book.specs.Accepted.{IsProcess}
use Rattle.book.specs.declared.Count.{Count}
use Rattle.book.specs.declared.Process.{Process}
use Rattle.book.specs.declared.TableRows.{TableRows}
use Rattle.book.specs.InTurn.{ask}
use Rattle.book.proofs.Questions.{then_none, asked_yes}
use Rattle.lists.specs.Over.{tab}
use Rattle.lists.specs.Pick.{pick}
use Rattle.matrix.specs.Matrix.{row}
use Rattle.message.specs.declared.Message.{Message}
use Rattle.message.specs.Formed.{message_formed}
use Rattle.message.proofs.Found.{found_some}
use Rattle.mail.specs.declared.Outgoing.{Outgoing}
use Rattle.mail.specs.Outgoing.{goes_to, no_lengths}
use Rattle.machine.specs.Own.{own_of}
use Rattle.machine.specs.Sends.{other_head, nothing, only_to}
use Rattle.participant.specs.declared.Participant.{Participant}
use Rattle.participant.specs.declared.ParticipantStep.{ParticipantStep}
use Rattle.participant.specs.Step as participant
use Rattle.participant.specs.Calls.{no_participant, read_by as read_down}
use Rattle.initiator.specs.declared.Initiator.{Initiator}
use Rattle.initiator.specs.declared.InitiatorStep.{InitiatorStep}
use Rattle.initiator.specs.Begin.{begin}
use Rattle.initiator.specs.Step as initiator
use Rattle.initiator.specs.Calls.{no_initiator, message_question, read_by}
use Rattle.initiator.proofs.Calls.{sender_there}
pub use Rattle.session.proofs.Places.{beyond}
use Rattle.session.specs.declared.Session.{Session}
use Rattle.session.specs.declared.Turned.{Turned}
use Rattle.session.specs.Workers.{initiator_of, participant_at}
use Rattle.session.specs.Calls.{no_session}
use Rattle.session.specs.Steps.{place_at_start, begun, delivered_on, on_strand, deliver_message, deliver_down, deliver_up, as_before}

-- ---- beside a refusal, and where nothing is delivered

pub none_is : (machine : Initiator) (p : Participant) → machine ≡ no_initiator → p ≡ no_participant
    → ◌≡◌ {A = Session} (record {
      n = 0;
      initiator = record { 0 = 0 };
      purpose = 0;
      machine = machine;
      participants = replicate 16 p;
      lengths = no_lengths;
      delivered = 0;
    }) no_session
unfolding no_session
none_is machine p e f =
    λ i. record {
      n = 0;
      initiator = record { 0 = 0 };
      purpose = 0;
      machine = e i;
      participants = replicate 16 (f i);
      lengths = no_lengths;
      delivered = 0;
    }

pub before_is : (session : Session) (o : Outgoing) → o ≡ nothing (other_head session.purpose session.initiator)
    → ◌≡◌ {A = Turned} (record { session = session; outgoing = o }) (as_before session)
before_is session o e = λ i. record { session = session; outgoing = e i }

-- ---- the start

pub begun_is : (tables : Tables) (initiator : Process) (purpose : ℕ) (next : InitiatorStep) (places : List Participant)
    → next ≡ begin (own_of tables (initiator.0 - 1)) initiator purpose
    → places ≡ tab 16 (place_at_start (lent tables.shape [] []) initiator purpose)
    → ◌≡◌ {A = Turned} (record {
      session =
          record {
            n = tables.shape.n;
            initiator = initiator;
            purpose = purpose;
            machine = next.state;
            participants = places;
            lengths = no_lengths;
            delivered = 0;
          };
      outgoing = next.outgoing;
    }) (begun tables initiator purpose)
unfolding begun
begun_is tables initiator purpose next places e f =
    λ i. record {
      session =
          record {
            n = tables.shape.n;
            initiator = initiator;
            purpose = purpose;
            machine = (e i).state;
            participants = f i;
            lengths = no_lengths;
            delivered = 0;
          };
      outgoing = (e i).outgoing;
    }

-- ---- what a participant sends is put on its own strand

module _ (k initiator : ℕ) (o sent : Outgoing) where
  pub silent_strand : goes_to o initiator ≡ false → sent ≡ nothing o.head → sent ≡ on_strand k initiator o
  unfolding on_strand
  silent_strand h e = rw h e

  pub reply_on_strand : (to from : ℕ) (news : List Count) → goes_to o initiator ≡ true → to ≡ k → from ≡ initiator
      → news ≡ row o.news from → sent ≡ only_to o.head to news → sent ≡ on_strand k initiator o
  unfolding on_strand
  reply_on_strand to from news h e f g r =
      rw h
      (r
      ∙ ap (λ (l : List Count). only_to o.head to l) (g ∙ ap (λ (j : ℕ). row o.news j) f)
      ∙ ap (λ (j : ℕ). only_to o.head j (row o.news initiator)) e)

-- ---- a message is delivered to participant k

pub names_down : (rows : TableRows) (k initiator : ℕ) (p q : Participant) → p ≡ q → q.me.0 ≡ suc k → q.initiator.0 ≡ initiator
    → IsProcess rows (suc k) → (1 ≤ initiator) × (initiator ≤ 16)
    → IsProcess rows p.me.0 × ((1 ≤ p.initiator.0) × (p.initiator.0 ≤ 16))
names_down rows k initiator p q e me its present there =
    let mine : p.me.0 ≡ suc k = ap (λ (t : Participant). t.me.0) e ∙ me in
    let from : p.initiator.0 ≡ initiator = ap (λ (t : Participant). t.initiator.0) e ∙ its in
    (omega (arith, mine, present), omega (arith, from, there))

pub message_is : (tables : Tables) (session : Session) (k : ℕ) (p : Participant) (m : Message)
    (next : ParticipantStep) (after : Session) (o : Outgoing) → p ≡ participant_at session k → (participant_at session k).me.0 ≡ suc k
    → next ≡ participant.step (own_of tables (p.me.0 - 1)) p m
    → after ≡ delivered_on session k session.machine (set session.participants k next.state)
    → o ≡ on_strand k (initiator_of session) next.outgoing
    → ◌≡◌ {A = Turned} (record { session = after; outgoing = o }) (deliver_message tables session k m)
message_is tables session k p m next after o e me g h r =
    let q : Participant = participant_at session k in
    let mine : q.me.0 - 1 ≡ k = omega (arith, me) in
    let at_its : next ≡ participant.step (own_of tables (q.me.0 - 1)) q m =
    g ∙ (λ i. participant.step (own_of tables ((e i).me.0 - 1)) (e i) m) in
    let is_next : next ≡ participant.step (own_of tables k) q m =
    at_its ∙ ap (λ (j : ℕ). participant.step (own_of tables j) q m) mine in
    let is_after =
    h ∙ ap (λ (t : ParticipantStep). delivered_on session k session.machine (set session.participants k t.state)) is_next in
    let is_sent = r ∙ ap (λ (t : ParticipantStep). on_strand k (initiator_of session) t.outgoing) is_next in
    λ i. record { session = is_after i; outgoing = is_sent i }

-- the message is the one that its bytes hold
pub down_is : (tables : Tables) (session : Session) (k : ℕ) (s : List ℕ) (p : Participant) (m : Message) {turned : Turned}
    → p ≡ participant_at session k → m ≡ read_down tables.shape.n p s → turned ≡ deliver_message tables session k m
    → turned ≡ deliver_down tables session k s
unfolding deliver_down
down_is tables session k s p m at read e =
    e ∙ ap (λ (q : Message). deliver_message tables session k q) (read ∙ ap (λ (q : Participant). read_down tables.shape.n q s) at)

-- ---- a report is delivered to the initiator

-- it is formed
module _ (n : ℕ) (machine : Initiator) (s : List ℕ) where
  abbrev formed : Bool
  formed = message_formed n machine.me.0 machine.me.0 s

  report_formed : message_question n machine s ≡ 0 → formed ≡ true
  report_formed passes = asked_yes 13 formed (then_none (ask 14 formed) _ passes).0

  pub report_there : {r : Option Message} → message_question n machine s ≡ 0 → r ≡ pick formed (Some (read_by n machine s)) None → IsSome r
  report_there passes e = rw (e, report_formed passes)

  pub report_read : {r : Option Message} {m : Message} → r ≡ pick formed (Some (read_by n machine s)) None → r ≡ Some m → m ≡ read_by n machine s
  report_read e is = (found_some formed _ e is).1

-- its sender is a process that there is
pub report_sender : (n : ℕ) (machine : Initiator) (s : List ℕ) (m : Message) → n ≤ 16 → message_question n machine s ≡ 0
    → m ≡ read_by n machine s → (1 ≤ m.head.sender.0) × (m.head.sender.0 ≤ 16)
report_sender n machine s m most passes e =
    let me : ℕ = machine.me.0 in
    let there = sender_there n me me s m (report_formed n machine s passes) e in
    (there.0, omega (arith, there))

pub up_is : (tables : Tables) (session : Session) (k : ℕ) (s : List ℕ) (m : Message) (next : InitiatorStep)
    (after : Session) → session.machine.me.0 ≡ session.initiator.0 → m ≡ read_by tables.shape.n session.machine s
    → next ≡ initiator.step (own_of tables (session.machine.me.0 - 1)) session.machine m
    → after ≡ delivered_on session k next.state session.participants
    → ◌≡◌ {A = Turned} (record { session = after; outgoing = next.outgoing }) (deliver_up tables session k s)
unfolding deliver_up
up_is tables session k s m next after me f g h =
    let mine : session.machine.me.0 - 1 ≡ initiator_of session = ap (λ (j : ℕ). j - 1) me in
    let is_next : next ≡ initiator.step (own_of tables (initiator_of session)) session.machine (read_by tables.shape.n session.machine s) =
    g ∙ (λ i. initiator.step (own_of tables (mine i)) session.machine (f i)) in
    let is_after = h ∙ ap (λ (t : InitiatorStep). delivered_on session k t.state session.participants) is_next in
    λ i. record { session = is_after i; outgoing = (is_next i).outgoing }
