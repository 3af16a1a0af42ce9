-- From a call that no question refuses to an accepted message.
use mathlib.Core.Path.{◌≡◌, subst}
use mathlib.Core.Bool.{true}
use mathlib.Core.List.{List}
use Prim.Native.Nat.{ℕ, ◌-◌}
use native.Mathlib.Omega.{arith}
use Rattle.book.specs.InTurn.{◌then◌}
use Rattle.book.specs.Check.{tables_question}
use Rattle.book.proofs.Questions.{then_none}
use Rattle.line_theory.proofs.Accepted.{passed_size}
use Rattle.matrix.specs.Entries.{all_lower}
use Rattle.message.specs.declared.Message.{Message}
use Rattle.book.specs.Names.{is_purpose}
use Rattle.message.specs.Formed.{message_formed}
use Rattle.message_laws.specs.Formed.{IsFormed}
use Rattle.message_laws.proofs.Theorems.{read_is_formed}
use Rattle.mail.specs.Outgoing.{room_question}
use Rattle.machine.specs.Own.{Own}
use Rattle.machine.specs.Named.{participant_named}
use Rattle.machine_laws.proofs.Messages.{end_of_reader}
use Rattle.machine_laws.proofs.Calls.{three_yes}
use Rattle.machine_laws.proofs.Theorems.{is_own}
use Rattle.participant.specs.declared.Participant.{Participant}
use Rattle.participant.specs.Fits.{fits}
use Rattle.participant.specs.Step.{awaits}
use Rattle.participant.specs.Calls.{own_of_state, read_by, state_question, message_question, step_on, receive_question}
use Rattle.participant_laws.specs.Statements.{AcceptedCall}
use Rattle.participant_laws.proofs.Accepted.{both_named}

module _ (n : ℕ) (own : Own) (state : Participant) where
  -- 10, 11 and 13
  state_asked : state_question n own state ≡ 0
      → (participant_named n state.me.0 state.initiator.0 ≡ true) × (is_purpose state.purpose ≡ true) × (fits own state ≡ true)
  state_asked = three_yes 9 10 12 (participant_named n state.me.0 state.initiator.0) (is_purpose state.purpose) (fits own state)

  -- 14, 15 and 16
  message_asked : (s : List ℕ) → message_question n state s ≡ 0
      → (message_formed n state.me.0 state.initiator.0 s ≡ true)
      × (awaits state (read_by n state s) ≡ true)
      × (all_lower (read_by n state s).news state.column ≡ true)
  message_asked s =
      three_yes 13 14 15 (message_formed n state.me.0 state.initiator.0 s) (awaits state (read_by n state s))
      (all_lower (read_by n state s).news state.column)

pub accepted_call : AcceptedCall
unfolding receive_question
accepted_call t state s out sixteen none =
    let n : ℕ = t.shape.n in
    let me : ℕ = state.me.0 in
    let initiator : ℕ = state.initiator.0 in
    let own : Own = own_of_state t state in
    let m : Message = read_by n state s in
    let a =
    then_none (tables_question t)
    (λ _. state_question n own state
    then λ _. message_question n state s
    then λ _. room_question (step_on t state s).outgoing out) none in
    let b =
    then_none (state_question n own state)
    (λ _. message_question n state s
    then λ _. room_question (step_on t state s).outgoing out) a.1 in
    let c = then_none (message_question n state s) (λ _. room_question (step_on t state s).outgoing out) b.1 in
    let of_state = state_asked n own state b.0 in
    let of_message = message_asked n own state s c.0 in
    let named = both_named n me initiator of_state.0 in
    let formed = read_is_formed n me initiator s (passed_size t a.0).1 of_message.0 in
    record {
      own_is = is_own {t = t} (record { sixteen = sixteen; passed = a.0 }) (me - 1) (omega arith);
      named = of_state.0;
      purpose = of_state.1;
      fitting = of_state.2;
      formed = subst (λ (end : ℕ). IsFormed n end m) (end_of_reader me initiator m.head.sender.0 named.others) formed;
      awaited = of_message.1;
      lower = of_message.2;
    }
