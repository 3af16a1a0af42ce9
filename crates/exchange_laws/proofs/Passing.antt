-- A message that is formed, awaited and lower, written and read, passes 14 to 16.
use mathlib.Core.Path.{◌≡◌, sym, subst}
use mathlib.Core.Bool.{Bool, true, false, not}
use Prim.Native.Nat.{ℕ, ◌-◌, ◌≤◌}
use borrow.Author.Tests.{eq-eqb, not-false}
use lib.Dec.{eqb}
use Rattle.matrix.specs.Matrix.{row, not_known_row}
use Rattle.matrix.specs.Entries.{same, all_lower}
use Rattle.message.specs.declared.Message.{Message}
use Rattle.message.specs.Layout.{pair_count, message_bytes}
use Rattle.message.specs.Formed.{message_formed}
use Rattle.message_laws.specs.Formed.{IsFormed}
use Rattle.message_laws.proofs.Theorems.{written_is_read}
use Rattle.mail.specs.declared.Outgoing.{Outgoing}
use Rattle.mail.specs.Outgoing.{goes_to}
use Rattle.machine.specs.Named.{participant_named}
use Rattle.machine.specs.Flags.{flag}
use Rattle.machine_laws.proofs.Messages.{end_of_reader, end_of_sender}
use Rattle.machine_laws.proofs.Calls.{yes_three}
use Rattle.lists.proofs.Tests.{or_unless}
use Rattle.participant.specs.declared.Participant.{Participant}
use Rattle.participant.specs.Step as participant
use Rattle.participant.specs.Calls as participant_calls
use Rattle.participant_laws.proofs.Accepted.{both_named}
use Rattle.initiator.specs.declared.Initiator.{Initiator}
use Rattle.initiator.specs.Step as initiator
use Rattle.initiator.specs.Calls as initiator_calls
use Rattle.exchange_laws.specs.Ends.{message_down, PassesDown, message_up, PassesUp}

-- ---- at a participant

pub awaited_down : (receiver : Participant) (m : Message) → m.head.sender.0 ≡ receiver.initiator.0 → m.head.purpose ≡ receiver.purpose
    → participant.kind_awaited receiver.stage m.head.kind ≡ true → participant.awaits receiver m ≡ true
unfolding participant.awaits
awaited_down receiver m sender purpose kind =
    rw (eq-eqb m.head.sender.0 receiver.initiator.0 sender, eq-eqb m.head.purpose receiver.purpose purpose) kind

pub passes_down : (n : ℕ) (out : Outgoing) (receiver : Participant) → n ≤ 16
    → participant_named n receiver.me.0 receiver.initiator.0 ≡ true → goes_to out (receiver.me.0 - 1) ≡ true
    → let m : Message = message_down out receiver in IsFormed n receiver.me.0 m
    → participant.awaits receiver m ≡ true → all_lower m.news receiver.column ≡ true → PassesDown n out receiver
passes_down n out receiver few named sent formed awaited lower =
    let me : ℕ = receiver.me.0 in
    let initiator : ℕ = receiver.initiator.0 in
    let m : Message = message_down out receiver in
    let r : Message = participant_calls.read_by n receiver (message_bytes m) in
    let others : eqb me initiator ≡ false = (both_named n me initiator named).others in
    let whole =
    written_is_read n me initiator m few
    (subst (λ (end : ℕ). IsFormed n end m) (sym (end_of_reader me initiator m.head.sender.0 others)) formed) in
    record {
      sent = sent;
      read = whole.1;
      passes =
          yes_three 14 15 16 (message_formed n me initiator (message_bytes m)) (participant.awaits receiver r)
          (all_lower r.news receiver.column) whole.0
          (subst (λ (r : Message). participant.awaits receiver r ≡ true) (sym whole.1) awaited)
          (subst (λ (r : Message). all_lower r.news receiver.column ≡ true) (sym whole.1) lower);
    }

-- ---- at the initiator

module _ (n : ℕ) (receiver : Initiator) (m : Message) where
  pub awaited_up : receiver.ended ≡ false → flag receiver.awaited (initiator.sender_of m) ≡ true → m.head.purpose ≡ receiver.purpose
      → m.head.kind ≡ 2
      → (same (row receiver.matrix (initiator.sender_of m)) (not_known_row receiver.n (initiator.sender_of m)) ≡ true
      → pair_count m.news ≡ receiver.n - 1)
      → initiator.awaits receiver m ≡ true
  unfolding initiator.awaits
  awaited_up waits flagged purpose kind first =
      let unknown : Bool = same (row receiver.matrix (initiator.sender_of m)) (not_known_row receiver.n (initiator.sender_of m)) in
      rw (waits, flagged, eq-eqb m.head.purpose receiver.purpose purpose, eq-eqb m.head.kind 2 kind)
      (or_unless (not unknown) (eqb (pair_count m.news) (receiver.n - 1))
      (λ e. eq-eqb (pair_count m.news) (receiver.n - 1) (first (not-false unknown e))))

  pub passes_up : (out : Outgoing) → n ≤ 16 → message_up out receiver ≡ m → goes_to out (receiver.me.0 - 1) ≡ true
      → (m.head.sender.0 ≡ receiver.me.0 → ⊥)
      → IsFormed n m.head.sender.0 m → initiator.awaits receiver m ≡ true
      → all_lower m.news (row receiver.matrix (initiator.sender_of m)) ≡ true → PassesUp n out receiver
  passes_up out few is sent other formed awaited lower =
      let me : ℕ = receiver.me.0 in
      let r : Message = initiator_calls.read_by n receiver (message_bytes m) in
      let whole =
      written_is_read n me me m few
      (subst (λ (end : ℕ). IsFormed n end m) (sym (end_of_sender me m.head.sender.0 other)) formed) in
      let asked : initiator_calls.message_question n receiver (message_bytes m) ≡ 0 =
      yes_three 14 15 16 (message_formed n me me (message_bytes m)) (initiator.awaits receiver r)
      (all_lower r.news (row receiver.matrix (initiator.sender_of r))) whole.0
      (subst (λ (r : Message). initiator.awaits receiver r ≡ true) (sym whole.1) awaited)
      (subst (λ (r : Message). all_lower r.news (row receiver.matrix (initiator.sender_of r)) ≡ true) (sym whole.1) lower) in
      record {
        sent = sent;
        read = subst (λ (m : Message). initiator_calls.read_by n receiver (message_bytes m) ≡ m) (sym is) whole.1;
        passes = subst (λ (m : Message). initiator_calls.message_question n receiver (message_bytes m) ≡ 0) (sym is) asked;
      }
