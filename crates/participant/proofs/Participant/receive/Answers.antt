-- `receive` meets its contract: at each return the tests that led there say which question fails first.
use mathlib.Core.Path.{◌≡◌, sym, ap, ◌∙◌}
use Prim.Native.Nat.{◌≤◌}
use native.Mathlib.Omega.{arith}
use Rattle.accepted.specs.Holding.{tables_in}
use Rattle.accepted.proofs.Accepting.{refused_with, passes_with, tables_are}
use Rattle.book.specs.Check.{tables_question}
use Rattle.book.specs.Lent.{Tables, lent}
use Rattle.book.specs.InTurn.{answer_with}
use Rattle.book.specs.Numbers.{by_number}
use Rattle.book.proofs.Refusals.{refused_by, is_accepted, value_is}
use Rattle.line_theory.proofs.Accepted.{passed_size, rows_few}
use Rattle.message.specs.Formed.{message_formed}
use Rattle.machine.proofs.Answers.{err_is}
use Rattle.participant.specs.Calls.{own_of_state, read_by, state_question, message_question}
use Rattle.participant.proofs.Calls.{state_named, step_on_lem, message_asked, by_tables, by_state, by_message, by_room, at_last}
use Rattle.participant.proofs.Participant.receive.Goals as goal
use Rattle.participant.proofs.Participant.receive.Goals.{In_ok-tables, After-state_question, In_ok-state_question, After-message_question}

-- ---- the tables

pub returns-in_err-tables : goal.returns-in_err-tables
returns-in_err-tables c =
    let a = c.args in
    let t = lent a.shape a.sent.now a.received.now in
    let whole =
    by_tables t a.self a.s.now a.out.now c.from_residual.result c.in_err-tables.field-0.0
    (err_is _ _ c.from_residual.ensures.1 (λ f same. same))
    (refused_with _ t c.accept.ensures c.in_err-tables.was) in
    record { answer = whole.0; out_after = whole.1 }

-- the accepted tables are those that were lent
passes : (c : In_ok-tables) → let a = c.args in tables_question (lent a.shape a.sent.now a.received.now) ≡ 0
passes c = let a = c.args in passes_with _ (lent a.shape a.sent.now a.received.now) c.accept.ensures c.in_ok-tables.was

same_tables : (c : In_ok-tables) → let a = c.args in tables_in c.in_ok-tables.tables ≡ lent a.shape a.sent.now a.received.now
same_tables c = let a = c.args in tables_are _ (lent a.shape a.sent.now a.received.now) c.accept.ensures c.in_ok-tables.was

-- ---- the state

-- its question on the accepted tables is that on those that were lent
state_is : (c : After-state_question)
    → let a = c.args in
    let t = tables_in c.in_ok-tables.tables in
    state_question t.shape.n (own_of_state t a.self) a.self
    ≡ state_question a.shape.n (own_of_state (lent a.shape a.sent.now a.received.now) a.self) a.self
state_is c =
    let a = c.args in
    ap (λ (t : Tables). state_question t.shape.n (own_of_state t a.self) a.self)
    (tables_are _ (lent a.shape a.sent.now a.received.now) c.accept.ensures c.in_ok-tables.was)

pub returns-in_err-state_question : goal.returns-in_err-state_question
returns-in_err-state_question c =
    let a = c.args in
    let t = lent a.shape a.sent.now a.received.now in
    let at = goal.at.returns-in_err-state_question c in
    let whole =
    by_state t a.self a.s.now a.out.now c.from_residual-in_err-state_question.result c.in_err-state_question.field-0.0
    (err_is _ _ c.from_residual-in_err-state_question.ensures.1 (λ f same. same))
    (passes at.In_ok-tables)
    (sym (state_is at.After-state_question) ∙ refused_by _ _ c.state_question.ensures c.in_err-state_question.was) in
    record { answer = whole.0; out_after = whole.1 }

state_passes : (c : In_ok-state_question)
    → let a = c.args in
    state_question a.shape.n (own_of_state (lent a.shape a.sent.now a.received.now) a.self) a.self ≡ 0
state_passes c =
    let a = c.args in
    sym (ap (λ (t : Tables). state_question t.shape.n (own_of_state t a.self) a.self)
    (tables_are _ (lent a.shape a.sent.now a.received.now) c.accept.ensures c.in_ok-tables.was))
    ∙ is_accepted _ _ c.state_question.ensures c.in_ok-state_question.was

-- ---- the message

pub read_message-read-requires : goal.read_message-read-requires
read_message-read-requires c =
    let a = c.args in
    (passed_size (lent a.shape a.sent.now a.received.now) (passes (goal.at.read_message-read-requires c).In_ok-tables)).1

message_answers : (c : After-message_question)
    → let a = c.args in
    by_number c.message_question.result ≡ answer_with (message_question a.shape.n a.self a.s.now) (read_by a.shape.n a.self a.s.now)
message_answers c =
    let a = c.args in
    c.message_question.ensures
    ∙ message_asked a.self c.read_message-read.result (message_formed a.shape.n a.self.me.0 a.self.initiator.0 a.s.now)
    (read_by a.shape.n a.self a.s.now) c.read_message-read.ensures

pub returns-in_err-message : goal.returns-in_err-message
returns-in_err-message c =
    let a = c.args in
    let t = lent a.shape a.sent.now a.received.now in
    let at = goal.at.returns-in_err-message c in
    let whole =
    by_message t a.self a.s.now a.out.now c.from_residual-in_err-message.result c.in_err-message.field-0.0
    (err_is _ _ c.from_residual-in_err-message.ensures.1 (λ f same. same))
    (passes at.In_ok-tables)
    (state_passes at.In_ok-state_question)
    (refused_by _ _ (message_answers at.After-message_question) c.in_err-message.was) in
    record { answer = whole.0; out_after = whole.1 }

-- ---- the room

pub step-next-requires : goal.step-next-requires
step-next-requires c =
    let a = c.args in
    let tables = c.in_ok-tables.tables in
    let named =
    state_named tables.rows.shape.n (own_of_state (tables_in tables) a.self) a.self
    (is_accepted _ _ c.state_question.ensures c.in_ok-state_question.was) in
    let few : tables.rows.shape.n ≤ 16 = rows_few tables.passed in
    record { is_process = named.0; le_initiator = (named.1.0, omega (arith, named.1, few)) }

pub returns-in_err-lengths : goal.returns-in_err-lengths
returns-in_err-lengths c =
    let a = c.args in
    let t = lent a.shape a.sent.now a.received.now in
    let at = goal.at.returns-in_err-lengths c in
    let answers = message_answers at.After-message_question in
    let whole =
    by_room t a.self a.s.now a.out.now (passes at.In_ok-tables)
    (state_passes at.In_ok-state_question)
    (is_accepted _ _ answers c.in_ok-message.was)
    c.step-next.result c.send.new.out
    (step_on_lem t a.self a.s.now (tables_in c.in_ok-tables.tables) c.in_ok-message.message c.step-next.result (same_tables at.In_ok-tables)
    (value_is _ _ answers c.in_ok-message.was)
    c.step-next.ensures)
    c.send.ensures.out_after
    c.from_residual-in_err-lengths.result c.in_err-lengths.field-0.0
    (err_is _ _ c.from_residual-in_err-lengths.ensures.1 (λ f same. same))
    (refused_by _ _ c.send.ensures.answer c.in_err-lengths.was) in
    record { answer = whole.0; out_after = whole.1 }

pub returns : goal.returns
returns c =
    let a = c.args in
    let t = lent a.shape a.sent.now a.received.now in
    let at = goal.at.returns c in
    let answers = message_answers at.After-message_question in
    let whole =
    at_last t a.self a.s.now a.out.now (passes at.In_ok-tables)
    (state_passes at.In_ok-state_question)
    (is_accepted _ _ answers c.in_ok-message.was)
    c.step-next.result c.send.new.out
    (step_on_lem t a.self a.s.now (tables_in c.in_ok-tables.tables) c.in_ok-message.message c.step-next.result (same_tables at.In_ok-tables)
    (value_is _ _ answers c.in_ok-message.was)
    c.step-next.ensures)
    c.send.ensures.out_after
    c.in_ok-lengths.lengths
    (is_accepted _ _ c.send.ensures.answer c.in_ok-lengths.was)
    (value_is _ _ c.send.ensures.answer c.in_ok-lengths.was) in
    record { answer = whole.0; out_after = whole.1 }
