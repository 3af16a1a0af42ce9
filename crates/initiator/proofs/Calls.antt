-- The initiator's calls: their questions as they are put, and from what the parts answer to the whole answer.
use mathlib.Core.Path.{◌≡◌, refl, sym, ap, subst, ◌∙◌}
use mathlib.Core.Bool.{Bool, true, false}
use mathlib.Core.List.{List}
use Prim.Native.Nat.{ℕ, zero, suc, ◌-◌, ◌≤◌}
use native.Mathlib.Omega.{arith}
use lib.ListN.{length, get_or}
use lib.Dec.{eqb}
use Rattle.std.specs.Prelude.{Result, Ok, Err, Option, Some, None}
use Rattle.std.proofs.lemmas.Option.{none-some, same_Some}
use Rattle.book.specs.Lent.{Tables}
use Rattle.book.specs.declared.Process.{Process}
use Rattle.book.specs.declared.Question.{Question}
use Rattle.book.specs.InTurn.{◌then◌, ask, answer_with}
use Rattle.book.specs.Numbers.{number, by_number}
use Rattle.book.specs.Check.{tables_question}
use Rattle.book.proofs.Questions.{then_passed, then_none, then_both, then_assoc, asked_yes, ask_yes, kept_passed}
use Rattle.lists.proofs.Tests.{and_both}
use Rattle.lists.specs.Pick.{pick}
use Rattle.matrix.specs.Matrix.{row}
use Rattle.matrix.specs.Entries.{all_lower}
use Rattle.message.specs.declared.Message.{Message}
use Rattle.book.specs.Names.{is_named, is_purpose}
use Rattle.message.specs.Formed.{begin_formed, numbers_formed, numbers_in, message_of, message_formed}
use Rattle.message.specs.Read.{no_message, message_read}
use Rattle.message.proofs.Messages.{head_sender}
use Rattle.book.proofs.Names.{named_in}
use Rattle.machine.specs.Own.{Own, own_of}
use Rattle.mail.specs.declared.Outgoing.{Outgoing}
use Rattle.mail.specs.Outgoing.{lengths, no_lengths, room_question, sent_bytes}
use Rattle.machine.proofs.Answers.{Answered, at_first, at_second, at_third, at_room, at_end}
use Rattle.initiator.specs.declared.Initiator.{Initiator}
use Rattle.initiator.specs.declared.InitiatorAfter.{InitiatorAfter}
use Rattle.initiator.specs.declared.InitiatorStep.{InitiatorStep}
use Rattle.initiator.specs.Begin.{begin}
use Rattle.initiator.specs.Fits.{fits}
use Rattle.initiator.specs.Step.{sender_of, awaits, step}
use Rattle.initiator.specs.Calls.{begin_on, begin_question, no_initiator, state_begun, lengths_begun, bytes_begun, own_of_state, read_by, state_question, message_question, step_on, receive_question, state_after, lengths_after, bytes_after}

-- ---- two tests

pub first_fails : (i j : ℕ) (a b : Bool) → 1 ≤ i → a ≡ false → i ≡ (ask i a then λ _. ask j b)
first_fails zero j a b some h = absurd (omega arith)
first_fails (suc i) j a b some h = rw h

pub second_fails : (i j : ℕ) (a b : Bool) → a ≡ true → b ≡ false → j ≡ (ask i a then λ _. ask j b)
second_fails i j a b h k = rw (h, k)

pub none_fails : (i j : ℕ) (a b : Bool) → a ≡ true → b ≡ true → 0 ≡ (ask i a then λ _. ask j b)
none_fails i j a b h k = rw (h, k)

-- ---- the sender of a formed message

pub sender_there : (n me initiator : ℕ) (s : List ℕ) (m : Message) → message_formed n me initiator s ≡ true → m ≡ message_read n me initiator s
    → (1 ≤ m.head.sender.0) × (m.head.sender.0 ≤ n)
unfolding message_formed numbers_formed message_read
sender_there n me initiator s m formed e =
    let numbers = (numbers_in s).found in
    let whole = and_both (eqb (numbers_in s).stop (length s)) (numbers_formed n me initiator numbers) formed in
    let head = and_both (begin_formed n numbers) _ whole.1 in
    let is : m ≡ message_of numbers = e ∙ ap (λ (b : Bool). pick b (message_of numbers) no_message) formed in
    subst (λ (t : Message). (1 ≤ t.head.sender.0) × (t.head.sender.0 ≤ n)) (sym is)
    (head_sender n (get_or numbers 0 0) (get_or numbers 1 0) (get_or numbers 2 0) head.0)

-- ---- the initiator begins

pub begin_on_lem : (tables : Tables) (me : Process) (purpose : ℕ) (taken : Tables) (next : InitiatorStep)
    → taken ≡ tables → next ≡ begin (own_of taken (me.0 - 1)) me purpose → next ≡ begin_on tables me purpose
begin_on_lem tables me purpose taken next e f = f ∙ (λ i. begin (own_of (e i) (me.0 - 1)) me purpose)

-- questions 10 and 11
abbrev pub names_question : ℕ → Process → ℕ → ℕ
names_question n me purpose = ask 10 (is_named n me.0) then λ _. ask 11 (is_purpose purpose)

pub names_there : (n : ℕ) (me : Process) (purpose : ℕ) → names_question n me purpose ≡ 0 → (1 ≤ me.0) × (me.0 ≤ n)
names_there n me purpose h =
    named_in n me.0 (asked_yes 9 (is_named n me.0) (then_none (ask 10 (is_named n me.0)) (λ _. ask 11 (is_purpose purpose)) h).0)

-- the two are one question of the call
module _ (tables : Tables) (me : Process) (purpose : ℕ) (out : List ℕ) where
  abbrev of_tables : ℕ
  of_tables = tables_question tables

  abbrev names : ℕ
  names = names_question tables.shape.n me purpose

  abbrev begun : InitiatorAfter
  begun = record { state = state_begun tables me purpose out; lengths = lengths_begun tables me purpose out }

  abbrev first_sends : Outgoing
  first_sends = (begin_on tables me purpose).outgoing

  -- what the call promises
  abbrev Begun : Result InitiatorAfter Question → List ℕ → Type 0
  Begun answer bytes = (by_number answer ≡ answer_with (begin_question tables me purpose out) begun) × (bytes ≡ bytes_begun tables me purpose out)

  joined : (of_tables then λ _. names then λ _. 0 then λ _. room_question first_sends out) ≡ begin_question tables me purpose out
  unfolding begin_question
  joined =
      ap (λ (k : ℕ). of_tables then λ _. k)
      (then_assoc (ask 10 (is_named tables.shape.n me.0)) (λ _. ask 11 (is_purpose purpose)) (λ _. room_question first_sends out))

  as_begun : (answer : Result InitiatorAfter Question) (bytes : List ℕ) → Answered of_tables names 0 begun first_sends out answer bytes → Begun answer bytes
  unfolding bytes_begun
  as_begun answer bytes answered =
      subst (λ (k : ℕ). (by_number answer ≡ answer_with k begun) × (bytes ≡ sent_bytes k first_sends out)) joined answered

  module _ (answer : Result InitiatorAfter Question) (e : Question) (is : answer ≡ Err e) where
    pub begun_by_tables : of_tables ≡ number e → Begun answer out
    begun_by_tables k = as_begun answer out (at_first of_tables names 0 begun first_sends out answer e is k)

    pub begun_by_names : of_tables ≡ 0 → names ≡ number e → Begun answer out
    begun_by_names h k = as_begun answer out (at_second of_tables names 0 begun first_sends out answer e is h k)

  module _ (first : of_tables ≡ 0) (second : names ≡ 0) (next : InitiatorStep) (bytes : List ℕ) (begin_is : next ≡ begin_on tables me purpose)
      (is_sent : bytes ≡ sent_bytes (room_question next.outgoing out) next.outgoing out) where
    first_room : room_question next.outgoing out ≡ room_question first_sends out
    first_room = ap (λ (t : InitiatorStep). room_question t.outgoing out) begin_is

    first_bytes : bytes ≡ sent_bytes (room_question first_sends out) first_sends out
    first_bytes = is_sent ∙ ap (λ (t : InitiatorStep). sent_bytes (room_question t.outgoing out) t.outgoing out) begin_is

    pub begun_by_room : (answer : Result InitiatorAfter Question) (e : Question) → answer ≡ Err e → room_question next.outgoing out ≡ number e
        → Begun answer bytes
    begun_by_room answer e is k =
        as_begun answer bytes (at_room of_tables names 0 begun first_sends out answer e is bytes first second refl (sym first_room ∙ k) first_bytes)

    module _ (counts : List ℕ) (fits_in : room_question next.outgoing out ≡ 0) (counted : counts ≡ lengths next.outgoing) where
      none_begun : begin_question tables me purpose out ≡ 0
      none_begun =
          sym joined
          ∙ then_both of_tables (λ _. names then λ _. 0 then λ _. room_question first_sends out) first
          (then_both names (λ _. 0 then λ _. room_question first_sends out) second (sym first_room ∙ fits_in))

      same_first : next.state ≡ state_begun tables me purpose out
      unfolding state_begun
      same_first =
          ap (λ (t : InitiatorStep). t.state) begin_is
          ∙ sym (kept_passed (begin_question tables me purpose out) no_initiator (begin_on tables me purpose).state none_begun)

      same_first_lengths : counts ≡ lengths_begun tables me purpose out
      unfolding lengths_begun
      same_first_lengths =
          counted
          ∙ ap (λ (t : InitiatorStep). lengths t.outgoing) begin_is
          ∙ sym (kept_passed (begin_question tables me purpose out) no_lengths (lengths first_sends) none_begun)

      pub begun_at_last : Begun (Ok (record { state = next.state; lengths = counts })) bytes
      begun_at_last =
          as_begun (Ok (record { state = next.state; lengths = counts })) bytes
          (at_end of_tables names 0 begun first_sends out (record { state = next.state; lengths = counts }) bytes first second refl
          (sym first_room ∙ fits_in)
          (λ i. record { state = same_first i; lengths = same_first_lengths i })
          first_bytes)

-- ---- the initiator receives a message

-- a state that passes
module _ (n : ℕ) (own : Own) (state : Initiator) (passes : state_question n own state ≡ 0) where
  abbrev named : Bool
  named = is_named n state.me.0

  after_name : (ask 10 named ≡ 0) × ((ask 11 (is_purpose state.purpose) then λ _. ask 13 (fits own state)) ≡ 0)
  after_name = then_none (ask 10 named) (λ _. ask 11 (is_purpose state.purpose) then λ _. ask 13 (fits own state)) passes

  pub state_named : (1 ≤ state.me.0) × (state.me.0 ≤ n)
  state_named = named_in n state.me.0 (asked_yes 9 named after_name.0)

  pub state_fits : fits own state ≡ true
  state_fits = asked_yes 12 (fits own state) (then_none (ask 11 (is_purpose state.purpose)) (λ _. ask 13 (fits own state)) after_name.1).1

-- the message's questions as they are put: 14 first
module _ (n : ℕ) (state : Initiator) (s : List ℕ) where
  abbrev formed : Bool
  formed = message_formed n state.me.0 state.me.0 s

  abbrev pub awaited_question : Message → ℕ
  awaited_question m = ask 15 (awaits state m) then λ _. ask 16 (all_lower m.news (row state.matrix (sender_of m)))

  -- a message that is there is the one that is formed
  pub not_formed : (read : Option Message) → read ≡ pick formed (Some (read_by n state s)) None → read ≡ None → message_question n state s ≡ 14
  not_formed read e is = go formed (sym e ∙ is)
    where
      go : (b : Bool) → pick b (Some (read_by n state s)) None ≡ None → (ask 14 b then λ _. awaited_question (read_by n state s)) ≡ 14
      go true k = absurd (none-some (read_by n state s) (sym k))
      go false k = refl

  pub is_formed : (read : Option Message) (m : Message) → read ≡ pick formed (Some (read_by n state s)) None → read ≡ Some m
      → (formed ≡ true) × (m ≡ read_by n state s)
  is_formed read m e is = go formed (sym e ∙ is)
    where
      go : (b : Bool) → pick b (Some (read_by n state s)) None ≡ Some m → (b ≡ true) × (m ≡ read_by n state s)
      go true k = (refl, sym (same_Some (read_by n state s) m k))
      go false k = absurd (none-some m k)

  pub formed_asked : (m : Message) → formed ≡ true → m ≡ read_by n state s → awaited_question m ≡ message_question n state s
  formed_asked m h e =
      ap (λ (t : Message). awaited_question t) e
      ∙ sym (then_passed (ask 14 formed) (λ _. awaited_question (read_by n state s)) (ask_yes 14 formed h))

-- the step, on the accepted tables and the message that was read
pub step_on_lem : (tables : Tables) (state : Initiator) (s : List ℕ) (taken : Tables) (m : Message) (next : InitiatorStep)
    → taken ≡ tables → m ≡ read_by tables.shape.n state s → next ≡ step (own_of_state taken state) state m
    → next ≡ step_on tables state s
step_on_lem tables state s taken m next e f g = g ∙ (λ i. step (own_of_state (e i) state) state (f i))

module _ (tables : Tables) (state : Initiator) (s out : List ℕ) where
  abbrev tables_asked : ℕ
  tables_asked = tables_question tables

  abbrev of_state : ℕ
  of_state = state_question tables.shape.n (own_of_state tables state) state

  abbrev of_message : ℕ
  of_message = message_question tables.shape.n state s

  abbrev value : InitiatorAfter
  value = record { state = state_after tables state s out; lengths = lengths_after tables state s out }

  abbrev sends : Outgoing
  sends = (step_on tables state s).outgoing

  -- what the call promises
  abbrev Met : Result InitiatorAfter Question → List ℕ → Type 0
  Met answer bytes = (by_number answer ≡ answer_with (receive_question tables state s out) value) × (bytes ≡ bytes_after tables state s out)

  module _ (answer : Result InitiatorAfter Question) (e : Question) (is : answer ≡ Err e) where
    pub by_tables : tables_asked ≡ number e → Met answer out
    unfolding receive_question bytes_after
    by_tables = at_first tables_asked of_state of_message value sends out answer e is

    pub by_state : tables_asked ≡ 0 → of_state ≡ number e → Met answer out
    unfolding receive_question bytes_after
    by_state = at_second tables_asked of_state of_message value sends out answer e is

    pub by_message : tables_asked ≡ 0 → of_state ≡ 0 → of_message ≡ number e → Met answer out
    unfolding receive_question bytes_after
    by_message = at_third tables_asked of_state of_message value sends out answer e is

  module _ (first : tables_asked ≡ 0) (second : of_state ≡ 0) (third : of_message ≡ 0) (next : InitiatorStep) (bytes : List ℕ)
      (step_is : next ≡ step_on tables state s) (is_sent : bytes ≡ sent_bytes (room_question next.outgoing out) next.outgoing out) where
    same_room : room_question next.outgoing out ≡ room_question sends out
    same_room = ap (λ (t : InitiatorStep). room_question t.outgoing out) step_is

    same_bytes : bytes ≡ sent_bytes (room_question sends out) sends out
    same_bytes = is_sent ∙ ap (λ (t : InitiatorStep). sent_bytes (room_question t.outgoing out) t.outgoing out) step_is

    pub by_room : (answer : Result InitiatorAfter Question) (e : Question) → answer ≡ Err e → room_question next.outgoing out ≡ number e → Met answer bytes
    unfolding receive_question bytes_after
    by_room answer e is k =
        at_room tables_asked of_state of_message value sends out answer e is bytes first second third (sym same_room ∙ k) same_bytes

    module _ (counts : List ℕ) (fits_in : room_question next.outgoing out ≡ 0) (counted : counts ≡ lengths next.outgoing) where
      none : receive_question tables state s out ≡ 0
      unfolding receive_question
      none =
          then_both tables_asked (λ _. of_state then λ _. of_message then λ _. room_question sends out) first
          (then_both of_state (λ _. of_message then λ _. room_question sends out) second
          (then_both of_message (λ _. room_question sends out) third (sym same_room ∙ fits_in)))

      same_state : next.state ≡ state_after tables state s out
      unfolding state_after
      same_state =
          ap (λ (t : InitiatorStep). t.state) step_is
          ∙ sym (kept_passed (receive_question tables state s out) state (step_on tables state s).state none)

      same_lengths : counts ≡ lengths_after tables state s out
      unfolding lengths_after
      same_lengths =
          counted
          ∙ ap (λ (t : InitiatorStep). lengths t.outgoing) step_is
          ∙ sym (kept_passed (receive_question tables state s out) no_lengths (lengths sends) none)

      pub at_last : Met (Ok (record { state = next.state; lengths = counts })) bytes
      unfolding receive_question bytes_after
      at_last =
          at_end tables_asked of_state of_message value sends out (record { state = next.state; lengths = counts }) bytes first second third
          (sym same_room ∙ fits_in)
          (λ i. record { state = same_state i; lengths = same_lengths i })
          same_bytes
