-- What is told by bytes that were read: who sent them, and that they fit a slot.
use mathlib.Core.Path.{◌≡◌, refl, sym, ap, subst, ◌∙◌}
use mathlib.Core.Bool.{Bool, true, false, ◌&&◌, true≢false}
use mathlib.Core.List.{List}
use Prim.Native.Nat.{ℕ, ◌≤◌}
use native.Mathlib.Omega.{arith}
use borrow.Author.Tests.{eqb-true}
use lib.ListN.{length, length-append}
use lib.Dec.{eqb}
use Rattle.varint.specs.Sequence.{encode_all}
use Rattle.varint.proofs.Encode.{encode_some}
use Rattle.lists.proofs.Tests.{and_both}
use Rattle.matrix.specs.Matrix.{row}
use Rattle.matrix.specs.Entries.{all_lower}
use Rattle.message.specs.declared.Message.{Message}
use Rattle.message.specs.Layout.{message_bytes}
use Rattle.message.specs.Formed.{participant_end, message_formed}
use Rattle.message.specs.Read.{message_read}
use Rattle.message_laws.specs.Formed.{IsFormed}
use Rattle.message_laws.proofs.Whole.{read_is}
use Rattle.message_laws.proofs.Theorems.{read_is_formed, longest}
use Rattle.machine.specs.Named.{participant_named}
use Rattle.machine_laws.proofs.Messages.{end_of_reader, end_of_sender}
use Rattle.machine_laws.proofs.Calls.{three_yes}
use Rattle.participant.specs.declared.Participant.{Participant}
use Rattle.participant.specs.declared.Stage.{Stage}
use Rattle.participant.specs.declared.Stage.TheVariants.{Before, Searching, Ended}
use Rattle.participant.specs.Step.{awaits, kind_awaited}
use Rattle.participant.specs.Calls as participant
use Rattle.participant_laws.proofs.Accepted.{Named, both_named}
use Rattle.initiator.specs.declared.Initiator.{Initiator}
use Rattle.initiator.specs.Step as initiator_step
use Rattle.initiator.specs.Calls as initiator
use Rattle.strands.specs.Strands.{slot_size}
use Rattle.session.specs.Workers.{is_ended}
use Rattle.session.specs.Held.{sender_in}

-- a message has bytes
pub bytes_some : (m : Message) → 1 ≤ length (message_bytes m)
unfolding message_bytes encode_all
bytes_some m = rw length-append (omega (arith, encode_some m.head.kind))

module _ (n me initiator : ℕ) (s : List ℕ) (formed : message_formed n me initiator s ≡ true) where
  -- the third number is the sender of what is read
  pub sent_by : sender_in s ≡ (message_read n me initiator s).head.sender.0
  sent_by = ap (λ (m : Message). m.head.sender.0) (sym (read_is n me initiator s formed))

  -- what is read fits a slot
  read_short : (end : ℕ) → n ≤ 16 → 1 ≤ end → end ≤ n
      → participant_end me initiator (message_read n me initiator s).head.sender.0 ≡ end
      → length (message_bytes (message_read n me initiator s)) ≤ slot_size n
  read_short end few some most e =
      let m : Message = message_read n me initiator s in
      longest n end m few some most (subst (λ (end : ℕ). IsFormed n end m) e (read_is_formed n me initiator s few formed))

-- who has ended awaits nothing
not_ended : (stage : Stage) (kind : ℕ) → kind_awaited stage kind ≡ true → is_ended stage ≡ false
not_ended Before kind h = refl
not_ended Searching kind h = refl
not_ended Ended kind h = absurd (true≢false (sym h))

-- ---- at a participant

pub record ReadDown (n : ℕ) (p : Participant) (s : List ℕ) : Type 0 where
  pub sender : sender_in s ≡ p.initiator.0
  pub going : is_ended p.stage ≡ false
  pub short : length (message_bytes (participant.read_by n p s)) ≤ slot_size n

pub read_down : (n : ℕ) (p : Participant) (s : List ℕ) → n ≤ 16 → participant_named n p.me.0 p.initiator.0 ≡ true
    → participant.message_question n p s ≡ 0 → ReadDown n p s
unfolding awaits
read_down n p s few named passes =
    let me : ℕ = p.me.0 in
    let initiator : ℕ = p.initiator.0 in
    let m : Message = participant.read_by n p s in
    let names : Named n me initiator = both_named n me initiator named in
    let asked = three_yes 13 14 15 (message_formed n me initiator s) (awaits p m) (all_lower m.news p.column) passes in
    let kinds : Bool = kind_awaited p.stage m.head.kind in
    let a = and_both (eqb m.head.sender.0 initiator) (eqb m.head.purpose p.purpose && kinds) asked.1 in
    let b = and_both (eqb m.head.purpose p.purpose) kinds a.1 in
    record {
      sender = sent_by n me initiator s asked.0 ∙ eqb-true m.head.sender.0 initiator a.0;
      going = not_ended p.stage m.head.kind b.1;
      short =
          read_short n me initiator s asked.0 me few names.me_some names.me_most
          (end_of_reader me initiator m.head.sender.0 names.others);
    }

-- ---- at the initiator

pub record ReadUp (n sender : ℕ) (s : List ℕ) : Type 0 where
  pub sent : sender_in s ≡ sender
  pub short : length s ≤ slot_size n

-- bytes that the initiator reads as they were written, from another process
pub read_up : (n : ℕ) (i : Initiator) (m : Message) → n ≤ 16 → 1 ≤ m.head.sender.0 → m.head.sender.0 ≤ n
    → (m.head.sender.0 ≡ i.me.0 → ⊥) → initiator.read_by n i (message_bytes m) ≡ m
    → initiator.message_question n i (message_bytes m) ≡ 0 → ReadUp n m.head.sender.0 (message_bytes m)
read_up n i m few some most other back passes =
    let me : ℕ = i.me.0 in
    let s : List ℕ = message_bytes m in
    let r : Message = initiator.read_by n i s in
    let asked =
    three_yes 13 14 15 (message_formed n me me s) (initiator_step.awaits i r)
    (all_lower r.news (row i.matrix (initiator_step.sender_of r))) passes in
    let sender : r.head.sender.0 ≡ m.head.sender.0 = ap (λ (m : Message). m.head.sender.0) back in
    record {
      sent = sent_by n me me s asked.0 ∙ sender;
      short =
          subst (λ (m : Message). length (message_bytes m) ≤ slot_size n) back
          (read_short n me me s asked.0 m.head.sender.0 few some most
          (ap (λ (v : ℕ). participant_end me me v) sender ∙ end_of_sender me m.head.sender.0 other));
    }
