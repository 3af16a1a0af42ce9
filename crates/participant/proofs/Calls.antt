-- From the questions of a call, put in turn, to its answer.
use mathlib.Core.Path.{◌≡◌, sym, ap, ◌∙◌}
use mathlib.Core.Bool.{Bool, true, false}
use mathlib.Core.List.{List}
use Prim.Native.Nat.{ℕ, ◌-◌, ◌≤◌}
use native.Mathlib.Omega.{arith}
use Rattle.std.specs.Prelude.{Result, Ok, Err, Option, Some, None}
use Rattle.book.specs.Lent.{Tables}
use Rattle.book.specs.declared.Checkpoint.{Checkpoint}
use Rattle.book.specs.declared.Count.{Count}
use Rattle.book.specs.declared.Process.{Process}
use Rattle.book.specs.declared.Question.{Question}
use Rattle.book.specs.InTurn.{◌then◌, ask, answer_with}
use Rattle.book.specs.Numbers.{number, by_number}
use Rattle.book.specs.Check.{tables_question}
use Rattle.book.specs.Names.{is_purpose}
use Rattle.book.specs.View.{count}
use Rattle.book.proofs.Questions.{then_passed, then_refused, then_none, then_both, asked_yes, ask_yes, ask_no, kept_passed}
use Rattle.book.proofs.Refusals.{number_positive}
use Rattle.lists.specs.Pick.{pick}
use Rattle.matrix.specs.Matrix.{not_known_row}
use Rattle.matrix.specs.Entries.{all_lower}
use Rattle.message.specs.declared.Message.{Message}
use Rattle.mail.specs.declared.Outgoing.{Outgoing}
use Rattle.mail.specs.Outgoing.{lengths, no_lengths, room_question, sent_bytes}
use Rattle.machine.specs.Own.{Own, own_of}
use Rattle.machine.specs.Named.{participant_named}
use Rattle.machine.proofs.Answers.{at_first, at_second, at_third, at_room, at_end}
use Rattle.participant.specs.declared.Participant.{Participant}
use Rattle.participant.specs.declared.ParticipantAfter.{ParticipantAfter}
use Rattle.participant.specs.declared.ParticipantStep.{ParticipantStep}
use Rattle.participant.specs.declared.Stage.TheVariants.{Before}
use Rattle.participant.specs.Fits.{fits}
use Rattle.participant.specs.Step.{first_of, first, awaits, step}
use Rattle.participant.specs.Calls.{no_participant, first_question, first_state, own_of_state, read_by, state_question, message_question, message_answer, step_on, receive_question, state_after, lengths_after, bytes_after}
use Rattle.participant.proofs.Fitting.{named_there}

-- ---- a participant's first state

pub before_is : (n : ℕ) (newest : Checkpoint) (me initiator : Process) (purpose : ℕ) (row : List Count) → row ≡ not_known_row n (me.0 - 1)
    → ◌≡◌ {A = Participant} (record {
      n = n;
      me = me;
      initiator = initiator;
      purpose = purpose;
      stage = Before;
      candidate = newest;
      row = row;
      column = row;
    }) (first_of n newest.0 me initiator purpose)
before_is n newest me initiator purpose row e =
    λ i. record {
      n = n;
      me = me;
      initiator = initiator;
      purpose = purpose;
      stage = Before;
      candidate = newest;
      row = e i;
      column = e i;
    }

module _ (tables : Tables) (me initiator : Process) (purpose : ℕ) where
  abbrev named : Bool
  named = participant_named tables.shape.n me.0 initiator.0

  abbrev asked : ℕ
  asked = first_question tables me.0 initiator.0 purpose

  pub first_tables : (e : Question) → tables_question tables ≡ number e → asked ≡ number e
  first_tables e is =
      let h : 1 ≤ number e = number_positive e in
      then_refused (tables_question tables) (λ _. ask 10 named then λ _. ask 11 (is_purpose purpose)) (λ z. absurd (omega arith)) ∙ is

  module _ (none : tables_question tables ≡ 0) where
    past_tables : asked ≡ (ask 10 named then λ _. ask 11 (is_purpose purpose))
    past_tables = then_passed (tables_question tables) (λ _. ask 10 named then λ _. ask 11 (is_purpose purpose)) none

    pub first_unnamed : named ≡ false → asked ≡ 10
    first_unnamed h = past_tables ∙ fails named h
      where
        fails : (b : Bool) → b ≡ false → (ask 10 b then λ _. ask 11 (is_purpose purpose)) ≡ 10
        fails b k = rw k

    past_names : named ≡ true → asked ≡ ask 11 (is_purpose purpose)
    past_names h = past_tables ∙ then_passed (ask 10 named) (λ _. ask 11 (is_purpose purpose)) (ask_yes 10 named h)

    pub first_no_purpose : named ≡ true → is_purpose purpose ≡ false → asked ≡ 11
    first_no_purpose h l = past_names h ∙ ask_no 11 (is_purpose purpose) l

    pub first_none : named ≡ true → is_purpose purpose ≡ true → asked ≡ 0
    first_none h l = past_names h ∙ ask_yes 11 (is_purpose purpose) l

  pub first_begun : (state : Participant) → asked ≡ 0 → state ≡ first_of tables.shape.n (count tables.shape (me.0 - 1)) me initiator purpose
      → state ≡ first_state tables me initiator purpose
  unfolding first_state
  first_begun state none e = e ∙ sym (kept_passed asked no_participant (first (own_of tables (me.0 - 1)) me initiator purpose) none)

-- ---- a participant receives a message

-- a state that passes names two processes that there are
pub state_named : (n : ℕ) (own : Own) (state : Participant) → state_question n own state ≡ 0
    → ((1 ≤ state.me.0) × (state.me.0 ≤ n)) × ((1 ≤ state.initiator.0) × (state.initiator.0 ≤ n))
state_named n own state h =
    let me = state.me.0 in
    let initiator = state.initiator.0 in
    let passes =
    then_none (ask 10 (participant_named n me initiator)) (λ _. ask 11 (is_purpose state.purpose) then λ _. ask 13 (fits own state)) h in
    named_there n me initiator (asked_yes 9 (participant_named n me initiator) passes.0)

-- the step, on the accepted tables and the message that was read
pub step_on_lem : (tables : Tables) (state : Participant) (s : List ℕ) (taken : Tables) (m : Message) (next : ParticipantStep)
    → taken ≡ tables → m ≡ read_by tables.shape.n state s → next ≡ step (own_of_state taken state) state m
    → next ≡ step_on tables state s
step_on_lem tables state s taken m next e f g = g ∙ (λ i. step (own_of_state (e i) state) state (f i))

-- what the message's questions answer of the message as it was read
pub message_asked : (state : Participant) (read : Option Message) (formed : Bool) (m : Message) → read ≡ pick formed (Some m) None
    → message_answer state read ≡ answer_with (ask 14 formed then λ _. ask 15 (awaits state m) then λ _. ask 16 (all_lower m.news state.column)) m
unfolding answer_with
message_asked state read true m e = ap (λ (r : Option Message). message_answer state r) e
message_asked state read false m e = ap (λ (r : Option Message). message_answer state r) e

module _ (tables : Tables) (state : Participant) (s out : List ℕ) where
  abbrev of_tables : ℕ
  of_tables = tables_question tables

  abbrev of_state : ℕ
  of_state = state_question tables.shape.n (own_of_state tables state) state

  abbrev of_message : ℕ
  of_message = message_question tables.shape.n state s

  abbrev value : ParticipantAfter
  value = record { state = state_after tables state s out; lengths = lengths_after tables state s out }

  abbrev sends : Outgoing
  sends = (step_on tables state s).outgoing

  -- what the call promises
  abbrev Met : Result ParticipantAfter Question → List ℕ → Type 0
  Met answer bytes = (by_number answer ≡ answer_with (receive_question tables state s out) value) × (bytes ≡ bytes_after tables state s out)

  module _ (answer : Result ParticipantAfter Question) (e : Question) (is : answer ≡ Err e) where
    pub by_tables : of_tables ≡ number e → Met answer out
    unfolding receive_question bytes_after
    by_tables = at_first of_tables of_state of_message value sends out answer e is

    pub by_state : of_tables ≡ 0 → of_state ≡ number e → Met answer out
    unfolding receive_question bytes_after
    by_state = at_second of_tables of_state of_message value sends out answer e is

    pub by_message : of_tables ≡ 0 → of_state ≡ 0 → of_message ≡ number e → Met answer out
    unfolding receive_question bytes_after
    by_message = at_third of_tables of_state of_message value sends out answer e is

  module _ (first : of_tables ≡ 0) (second : of_state ≡ 0) (third : of_message ≡ 0) (next : ParticipantStep) (bytes : List ℕ)
      (step_is : next ≡ step_on tables state s) (is_sent : bytes ≡ sent_bytes (room_question next.outgoing out) next.outgoing out) where
    same_room : room_question next.outgoing out ≡ room_question sends out
    same_room = ap (λ (t : ParticipantStep). room_question t.outgoing out) step_is

    same_bytes : bytes ≡ sent_bytes (room_question sends out) sends out
    same_bytes = is_sent ∙ ap (λ (t : ParticipantStep). sent_bytes (room_question t.outgoing out) t.outgoing out) step_is

    pub by_room : (answer : Result ParticipantAfter Question) (e : Question) → answer ≡ Err e → room_question next.outgoing out ≡ number e → Met answer bytes
    unfolding receive_question bytes_after
    by_room answer e is k =
        at_room of_tables of_state of_message value sends out answer e is bytes first second third (sym same_room ∙ k) same_bytes

    module _ (counts : List ℕ) (fits_in : room_question next.outgoing out ≡ 0) (counted : counts ≡ lengths next.outgoing) where
      none : receive_question tables state s out ≡ 0
      unfolding receive_question
      none =
          then_both of_tables (λ _. of_state then λ _. of_message then λ _. room_question sends out) first
          (then_both of_state (λ _. of_message then λ _. room_question sends out) second
          (then_both of_message (λ _. room_question sends out) third (sym same_room ∙ fits_in)))

      same_state : next.state ≡ state_after tables state s out
      unfolding state_after
      same_state =
          ap (λ (t : ParticipantStep). t.state) step_is
          ∙ sym (kept_passed (receive_question tables state s out) state (step_on tables state s).state none)

      same_lengths : counts ≡ lengths_after tables state s out
      unfolding lengths_after
      same_lengths =
          counted
          ∙ ap (λ (t : ParticipantStep). lengths t.outgoing) step_is
          ∙ sym (kept_passed (receive_question tables state s out) no_lengths (lengths sends) none)

      pub at_last : Met (Ok (record { state = next.state; lengths = counts })) bytes
      unfolding receive_question bytes_after
      at_last =
          at_end of_tables of_state of_message value sends out (record { state = next.state; lengths = counts }) bytes first second third
          (sym same_room ∙ fits_in)
          (λ i. record { state = same_state i; lengths = same_lengths i })
          same_bytes
