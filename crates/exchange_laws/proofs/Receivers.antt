-- A participant that receives: whom it awaits, and messages without pairs.
use mathlib.Core.Path.{◌≡◌, sym, ap, subst, ◌∙◌}
use mathlib.Core.Bool.{Bool, true, false, not, ◌&&◌}
use Prim.Native.Nat.{ℕ, ◌-◌, ◌≤◌, ◌<◌}
use native.Mathlib.Omega.{arith}
use borrow.Author.Tests.{eqb-false, lt-ltb, ne_eqb}
use lib.Dec.{eqb}
use Rattle.book.specs.declared.Process.{Process}
use Rattle.book.specs.Bounds.{mark}
use Rattle.lists.proofs.Tests.{and_both}
use Rattle.lists.proofs.Over.{get_d_tab}
use Rattle.consistency.specs.Known.{counters}
use Rattle.matrix.specs.Matrix.{entry, row}
use Rattle.matrix.specs.Entries.{patch}
use Rattle.matrix.proofs.Rows.{row_length, entry_of_matrix}
use Rattle.message.specs.declared.Message.{Message}
use Rattle.message.specs.declared.Head.{Head}
use Rattle.book.specs.Names.{is_named}
use Rattle.message.specs.Formed.{head_formed, invitation_formed}
use Rattle.mail.specs.declared.Outgoing.{Outgoing}
use Rattle.machine.specs.Own.{Own}
use Rattle.machine.specs.Named.{is_participant}
use Rattle.machine.specs.Sends.{no_pairs}
use Rattle.machine.specs.Flags.{flag, participants}
use Rattle.machine_laws.proofs.Rows.{row_at}
use Rattle.participant.specs.declared.Participant.{Participant}
use Rattle.participant.specs.declared.Stage.{Stage}
use Rattle.participant.specs.declared.ParticipantStep.{ParticipantStep}
use Rattle.participant.specs.Step.{kind_awaited, awaits, step_back, report_of, step}
use Rattle.participant_laws.specs.Accepts.{ends_it}
use Rattle.participant_laws.proofs.Accepted.{Named, both_named}
use Rattle.participant_laws.proofs.Report.{step_going}
use Rattle.exchange_laws.specs.Ends.{message_down, PassesDown, TakesPart}
use Rattle.exchange_laws.proofs.Differences.{none_lower, none_formed}
use Rattle.exchange_laws.proofs.Passing.{awaited_down, passes_down}

-- a message that does not end the search is taken into the column
pub column_taken : (its : Own) (receiver : Participant) (m : Message) → ends_it m ≡ false
    → (step its receiver m).state.column ≡ patch receiver.column m.news
unfolding report_of step_back
column_taken its receiver m going = ap (λ (s : ParticipantStep). s.state.column) (step_going its receiver m going)

-- a row without pairs
pub nothing_told : (p : ℕ) → p < 16 → (k : ℕ) → k < 16 → counters (row no_pairs p) k ≡ mark
nothing_told p h k i = row_at no_pairs p k i ∙ entry_of_matrix (λ p k. mark) p k h i

module _ (n : ℕ) (initiator : Process) (purpose : ℕ) (stage : Stage) (receiver : Participant) (few : n ≤ 16)
    (part : TakesPart n initiator purpose stage receiver) where
  abbrev me : ℕ
  me = receiver.me.0 - 1

  names : Named n receiver.me.0 receiver.initiator.0
  names = both_named n receiver.me.0 receiver.initiator.0 part.named

  pub me_some : 1 ≤ receiver.me.0
  me_some = names.me_some

  pub me_there : me < n
  me_there = omega (arith, names.me_some, names.me_most)

  pub me_within : me < 16
  me_within = omega (arith, me_there)

  pub me_other : me ≡ initiator.0 - 1 → ⊥
  me_other e =
      eqb-false receiver.me.0 receiver.initiator.0 names.others
      (omega (arith, e, part.initiated, names.me_some, names.initiator_some))

  pub sender_named : is_named n initiator.0 ≡ true
  sender_named =
      let me_named : Bool = is_named n receiver.me.0 in
      let initiator_named : Bool = is_named n receiver.initiator.0 in
      let other : Bool = not (eqb receiver.me.0 receiver.initiator.0) in
      subst (λ (k : ℕ). is_named n k ≡ true) part.initiated
      (and_both initiator_named other (and_both me_named (initiator_named && other) part.named).1).0

  pub is_participant_lem : is_participant n (initiator.0 - 1) me ≡ true
  is_participant_lem = rw (lt-ltb me n me_there, ne_eqb me (initiator.0 - 1) me_other)

  pub sent_to_all : flag (participants n (initiator.0 - 1)) me ≡ true
  unfolding participants
  sent_to_all = get_d_tab 16 (λ p. is_participant n (initiator.0 - 1) p) me false me_within ∙ is_participant_lem

  -- the right sender, purpose and kind
  pub right : (m : Message) → m.head.sender.0 ≡ initiator.0 → m.head.purpose ≡ purpose
      → kind_awaited stage m.head.kind ≡ true → awaits receiver m ≡ true
  right m sender for kind =
      awaited_down receiver m (sender ∙ sym part.initiated) (for ∙ sym part.same_purpose)
      (subst (λ (s : Stage). kind_awaited s m.head.kind ≡ true) (sym part.in_stage) kind)

  -- a message without pairs passes
  module _ (head : Head) where
    abbrev to_all : Outgoing
    to_all = record { head = head; to = participants n (initiator.0 - 1); news = no_pairs }

    pub empty_passes : head.sender.0 ≡ initiator.0 → head.purpose ≡ purpose → kind_awaited stage head.kind ≡ true
        → head_formed n head.kind head.purpose head.sender.0 ≡ true → invitation_formed (message_down to_all receiver) ≡ true
        → PassesDown n to_all receiver
    empty_passes sender for kind formed invitation =
        let m : Message = message_down to_all receiver in
        passes_down n to_all receiver few part.named sent_to_all
        (none_formed n receiver.me.0 m (row_length (λ q. entry no_pairs me q)) (nothing_told me me_within) formed invitation)
        (right m sender for kind)
        (none_lower m.news receiver.column (nothing_told me me_within))
