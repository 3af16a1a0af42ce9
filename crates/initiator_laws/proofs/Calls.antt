-- A call that no question refuses, question by question.
use mathlib.Core.Path.{◌≡◌, sym, subst}
use mathlib.Core.Bool.{true}
use mathlib.Core.List.{List}
use Prim.Native.Nat.{ℕ, ◌-◌, ◌≤◌, ◌<◌}
use native.Mathlib.Omega.{arith}
use Rattle.book.specs.Lent.{Tables}
use Rattle.book.specs.InTurn.{ask}
use Rattle.book.specs.Check.{tables_question}
use Rattle.book.proofs.Questions.{then_none, asked_yes, kept_passed}
use Rattle.line_theory.proofs.Accepted.{passed_size}
use Rattle.matrix.specs.Matrix.{row}
use Rattle.matrix.specs.Entries.{all_lower}
use Rattle.message.specs.declared.Message.{Message}
use Rattle.book.specs.Names.{is_named, is_purpose}
use Rattle.message.specs.Formed.{message_formed}
use Rattle.message_laws.specs.Formed.{IsFormed}
use Rattle.message_laws.proofs.Theorems.{read_is_formed}
use Rattle.machine.specs.Own.{Own, own_of}
use Rattle.machine_laws.proofs.Messages.{named_there, head_in, end_of_sender}
use Rattle.machine_laws.proofs.Calls.{three_yes}
use Rattle.machine_laws.proofs.Theorems.{is_own}
use Rattle.initiator.specs.declared.Initiator.{Initiator}
use Rattle.initiator.specs.Fits.{fits}
use Rattle.initiator.specs.Step.{sender_of, awaits}
use Rattle.initiator.specs.Calls.{own_of_state, read_by, state_question, message_question, receive_question, begin_on, begin_question, no_initiator, state_begun}
use Rattle.initiator_laws.specs.Statements.{AcceptedCall, BegunFits}
use Rattle.initiator_laws.proofs.Begun.{begin_fits}
use Rattle.initiator_laws.proofs.Reported.{sender_other}

record Passed (t : Tables) (state : Initiator) (s : List ℕ) : Type 0 where
  tables : tables_question t ≡ 0
  named : is_named t.shape.n state.me.0 ≡ true
  purpose : is_purpose state.purpose ≡ true
  fitting : fits (own_of_state t state) state ≡ true
  formed : message_formed t.shape.n state.me.0 state.me.0 s ≡ true
  awaited : awaits state (read_by t.shape.n state s) ≡ true
  lower : all_lower (read_by t.shape.n state s).news (row state.matrix (sender_of (read_by t.shape.n state s))) ≡ true

receive_passed : (t : Tables) (state : Initiator) (s out : List ℕ) → receive_question t state s out ≡ 0 → Passed t state s
unfolding receive_question
receive_passed t state s out h =
    let a = then_none (tables_question t) _ h in
    let b = then_none (state_question t.shape.n (own_of_state t state) state) _ a.1 in
    let c = then_none (message_question t.shape.n state s) _ b.1 in
    let m : Message = read_by t.shape.n state s in
    let d =
    three_yes 9 10 12 (is_named t.shape.n state.me.0) (is_purpose state.purpose) (fits (own_of_state t state) state) b.0 in
    let e =
    three_yes 13 14 15 (message_formed t.shape.n state.me.0 state.me.0 s) (awaits state m)
    (all_lower m.news (row state.matrix (sender_of m))) c.0 in
    record {
      tables = a.0;
      named = d.0;
      purpose = d.1;
      fitting = d.2;
      formed = e.0;
      awaited = e.1;
      lower = e.2;
    }

pub accepted_call : AcceptedCall
accepted_call t state s out sixteen none =
    let passed : Passed t state s = receive_passed t state s out none in
    let me : ℕ = state.me.0 in
    let m : Message = read_by t.shape.n state s in
    let few : t.shape.n ≤ 16 = (passed_size t passed.tables).1 in
    let read = read_is_formed t.shape.n me me s few passed.formed in
    let head = head_in t.shape.n m.head.kind m.head.purpose m.head.sender.0 read.head in
    let other : (m.head.sender.0 ≡ me → ⊥) =
    λ e. sender_other (own_of_state t state) state m passed.fitting passed.awaited (omega (arith, head.0, head.1))
    (omega (arith, e)) in
    record {
      own_is = is_own {t = t} (record { sixteen = sixteen; passed = passed.tables }) (me - 1) (named_there t.shape.n me passed.named);
      named = passed.named;
      purpose = passed.purpose;
      fitting = passed.fitting;
      formed = subst (λ (end : ℕ). IsFormed t.shape.n end m) (end_of_sender me m.head.sender.0 other) read;
      awaited = passed.awaited;
      lower = passed.lower;
    }

pub begun_fits : BegunFits
unfolding begin_question state_begun
begun_fits t me purpose out sixteen none =
    let j : ℕ = me.0 - 1 in
    let own : Own = own_of t j in
    let a = then_none (tables_question t) _ none in
    let b = then_none (ask 10 (is_named t.shape.n me.0)) _ a.1 in
    let there : j < t.shape.n = named_there t.shape.n me.0 (asked_yes 9 (is_named t.shape.n me.0) b.0) in
    subst (λ (s : Initiator). fits own s ≡ true)
    (sym (kept_passed (begin_question t me purpose out) no_initiator (begin_on t me purpose).state none))
    (begin_fits own me purpose (is_own {t = t} (record { sixteen = sixteen; passed = a.0 }) j there))
