-- `receive` meets its contract: at each return the tests that led there say which question fails first.
use mathlib.Core.Path.{◌≡◌, refl, sym, ap, ◌∙◌}
use mathlib.Core.Bool.{true}
use Prim.Native.Nat.{◌≤◌}
use native.Mathlib.Omega.{arith}
use Rattle.accepted.specs.Holding.{tables_in}
use Rattle.accepted.proofs.Accepting.{refused_with, passes_with, tables_are}
use Rattle.book.specs.declared.Question.TheVariants.{MessageFormed}
use Rattle.book.specs.Check.{tables_question}
use Rattle.book.specs.Lent.{Tables, lent}
use Rattle.book.proofs.Refusals.{refused_by, is_accepted, value_is}
use Rattle.line_theory.proofs.Accepted.{passed_size}
use Rattle.message.specs.Formed.{message_formed}
use Rattle.machine.proofs.Answers.{err_is}
use Rattle.initiator.specs.Calls.{own_of_state, read_by, state_question}
use Rattle.initiator.proofs.Fitting.{fitting_size, fitting_rounds}
use Rattle.initiator.proofs.Calls.{sender_there, state_named, state_fits, not_formed, is_formed, formed_asked, step_on_lem, by_tables, by_state, by_message, by_room, at_last}
use Rattle.initiator.proofs.Initiator.receive.Goals as goal
use Rattle.initiator.proofs.Initiator.receive.Goals.{In_ok-tables, After-state_question, In_ok-state_question, In-Some}

-- ---- the tables

pub returns-in_err-tables : goal.returns-in_err-tables
returns-in_err-tables c =
    let a = c.args in
    let t = lent a.shape a.sent.now a.received.now in
    let whole =
    by_tables t a.self a.s.now a.out.now c.from_residual.result c.in_err-tables.field-0.0
    (err_is _ _ c.from_residual.ensures.1 (λ f same. same))
    (refused_with _ t c.accept.ensures c.in_err-tables.was) in
    record { answer = whole.0; out_after = whole.1 }

-- the accepted tables are those that were lent
tables_pass : (c : In_ok-tables) → let a = c.args in tables_question (lent a.shape a.sent.now a.received.now) ≡ 0
tables_pass c = let a = c.args in passes_with _ (lent a.shape a.sent.now a.received.now) c.accept.ensures c.in_ok-tables.was

same_tables : (c : In_ok-tables) → let a = c.args in tables_in c.in_ok-tables.tables ≡ lent a.shape a.sent.now a.received.now
same_tables c = let a = c.args in tables_are _ (lent a.shape a.sent.now a.received.now) c.accept.ensures c.in_ok-tables.was

-- ---- the state

-- its question on the accepted tables is that on those that were lent
state_is : (c : After-state_question)
    → let a = c.args in
    let t = tables_in c.in_ok-tables.tables in
    state_question t.shape.n (own_of_state t a.self) a.self
    ≡ state_question a.shape.n (own_of_state (lent a.shape a.sent.now a.received.now) a.self) a.self
state_is c =
    let a = c.args in
    ap (λ (t : Tables). state_question t.shape.n (own_of_state t a.self) a.self)
    (tables_are _ (lent a.shape a.sent.now a.received.now) c.accept.ensures c.in_ok-tables.was)

pub returns-in_err-state_question : goal.returns-in_err-state_question
returns-in_err-state_question c =
    let a = c.args in
    let at = goal.at.returns-in_err-state_question c in
    let whole =
    by_state (lent a.shape a.sent.now a.received.now) a.self a.s.now a.out.now c.from_residual-in_err-state_question.result
    c.in_err-state_question.field-0.0
    (err_is _ _ c.from_residual-in_err-state_question.ensures.1 (λ f same. same))
    (tables_pass at.In_ok-tables)
    (sym (state_is at.After-state_question) ∙ refused_by _ _ c.state_question.ensures c.in_err-state_question.was) in
    record { answer = whole.0; out_after = whole.1 }

passes : (c : In_ok-state_question)
    → let a = c.args in
    state_question a.shape.n (own_of_state (lent a.shape a.sent.now a.received.now) a.self) a.self ≡ 0
passes c =
    let a = c.args in
    sym (ap (λ (t : Tables). state_question t.shape.n (own_of_state t a.self) a.self)
    (tables_are _ (lent a.shape a.sent.now a.received.now) c.accept.ensures c.in_ok-tables.was))
    ∙ is_accepted _ _ c.state_question.ensures c.in_ok-state_question.was

-- ---- the message

pub read_message-requires : goal.read_message-requires
read_message-requires c =
    let a = c.args in
    (passed_size (lent a.shape a.sent.now a.received.now) (tables_pass (goal.at.read_message-requires c).In_ok-tables)).1

pub returns-in_default : goal.returns-in_default
returns-in_default c =
    let a = c.args in
    let at = goal.at.returns-in_default c in
    let whole =
    by_message (lent a.shape a.sent.now a.received.now) a.self a.s.now a.out.now _ MessageFormed refl (tables_pass at.In_ok-tables)
    (passes at.In_ok-state_question)
    (not_formed a.shape.n a.self a.s.now c.read_message.result c.read_message.ensures c.in_default.is) in
    record { answer = whole.0; out_after = whole.1 }

-- the message is formed, and the one that was read
is-read : (c : In-Some)
    → let a = c.args in
    (message_formed a.shape.n a.self.me.0 a.self.me.0 a.s.now ≡ true) × (c.in-Some.message ≡ read_by a.shape.n a.self a.s.now)
is-read c = let a = c.args in is_formed a.shape.n a.self a.s.now c.read_message.result c.in-Some.message c.read_message.ensures c.in-Some.is

-- its sender is a process that there is
sender : (c : In-Some) → let m = c.in-Some.message in (1 ≤ m.head.sender.0) × (m.head.sender.0 ≤ 16)
sender c =
    let a = c.args in
    let read = is_formed a.shape.n a.self a.s.now c.read_message.result c.in-Some.message c.read_message.ensures c.in-Some.is in
    let named = sender_there a.shape.n a.self.me.0 a.self.me.0 a.s.now c.in-Some.message read.0 read.1 in
    let t = lent a.shape a.sent.now a.received.now in
    let size = passed_size t (passes_with _ t c.accept.ensures c.in_ok-tables.was) in
    (named.0, omega (arith, named, size))

pub awaited_question-requires : goal.awaited_question-requires
awaited_question-requires c =
    let a = c.args in
    let at = goal.at.awaited_question-requires c in
    let t = lent a.shape a.sent.now a.received.now in
    let own = own_of_state t a.self in
    let size = passed_size t (tables_pass at.In_ok-tables) in
    let fit = fitting_size own a.self (state_fits a.shape.n own a.self (passes at.In_ok-state_question)) in
    record { le_sender = sender at.In-Some; le_n = omega (arith, fit, size) }

pub returns-in_err-awaited_question : goal.returns-in_err-awaited_question
returns-in_err-awaited_question c =
    let a = c.args in
    let at = goal.at.returns-in_err-awaited_question c in
    let read = is-read at.In-Some in
    let whole =
    by_message (lent a.shape a.sent.now a.received.now) a.self a.s.now a.out.now c.from_residual-in_err-awaited_question.result
    c.in_err-awaited_question.field-0.0
    (err_is _ _ c.from_residual-in_err-awaited_question.ensures.1 (λ f same. same))
    (tables_pass at.In_ok-tables)
    (passes at.In_ok-state_question)
    (sym (formed_asked a.shape.n a.self a.s.now c.in-Some.message read.0 read.1)
    ∙ refused_by _ _ c.awaited_question.ensures c.in_err-awaited_question.was) in
    record { answer = whole.0; out_after = whole.1 }

-- ---- the room

pub step-next-requires : goal.step-next-requires
step-next-requires c =
    let a = c.args in
    let at = goal.at.step-next-requires c in
    let t = tables_in c.in_ok-tables.tables in
    let own = own_of_state t a.self in
    let pass = is_accepted _ _ c.state_question.ensures c.in_ok-state_question.was in
    record {
      is_process = state_named t.shape.n own a.self pass;
      le_sender = sender at.In-Some;
      rounds_lt_tally_limit = fitting_rounds own a.self (state_fits t.shape.n own a.self pass);
    }

pub returns-in_err-lengths : goal.returns-in_err-lengths
returns-in_err-lengths c =
    let a = c.args in
    let t = lent a.shape a.sent.now a.received.now in
    let at = goal.at.returns-in_err-lengths c in
    let read = is-read at.In-Some in
    let whole =
    by_room t a.self a.s.now a.out.now (tables_pass at.In_ok-tables)
    (passes at.In_ok-state_question)
    (sym (formed_asked a.shape.n a.self a.s.now c.in-Some.message read.0 read.1)
    ∙ is_accepted _ _ c.awaited_question.ensures c.in_ok-awaited_question.was)
    c.step-next.result c.send.new.out
    (step_on_lem t a.self a.s.now (tables_in c.in_ok-tables.tables) c.in-Some.message c.step-next.result (same_tables at.In_ok-tables) read.1 c.step-next.ensures)
    c.send.ensures.out_after
    c.from_residual-in_err-lengths.result c.in_err-lengths.field-0.0
    (err_is _ _ c.from_residual-in_err-lengths.ensures.1 (λ f same. same))
    (refused_by _ _ c.send.ensures.answer c.in_err-lengths.was) in
    record { answer = whole.0; out_after = whole.1 }

pub returns : goal.returns
returns c =
    let a = c.args in
    let t = lent a.shape a.sent.now a.received.now in
    let at = goal.at.returns c in
    let read = is-read at.In-Some in
    let whole =
    at_last t a.self a.s.now a.out.now (tables_pass at.In_ok-tables)
    (passes at.In_ok-state_question)
    (sym (formed_asked a.shape.n a.self a.s.now c.in-Some.message read.0 read.1)
    ∙ is_accepted _ _ c.awaited_question.ensures c.in_ok-awaited_question.was)
    c.step-next.result c.send.new.out
    (step_on_lem t a.self a.s.now (tables_in c.in_ok-tables.tables) c.in-Some.message c.step-next.result (same_tables at.In_ok-tables) read.1 c.step-next.ensures)
    c.send.ensures.out_after
    c.in_ok-lengths.lengths
    (is_accepted _ _ c.send.ensures.answer c.in_ok-lengths.was)
    (value_is _ _ c.send.ensures.answer c.in_ok-lengths.was) in
    record { answer = whole.0; out_after = whole.1 }
