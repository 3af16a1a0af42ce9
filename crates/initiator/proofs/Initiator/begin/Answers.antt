-- `begin` meets its contract: at each return the tests that led there say which question fails first.
use mathlib.Core.Path.{◌≡◌, sym, subst}
use Prim.Native.Nat.{◌≤◌}
use Rattle.accepted.specs.Holding.{tables_in}
use Rattle.accepted.proofs.Accepting.{refused_with, passes_with, tables_are}
use Rattle.book.specs.Check.{tables_question}
use Rattle.book.specs.Lent.{Tables, lent}
use Rattle.book.proofs.Refusals.{refused_by, is_accepted, value_is}
use Rattle.machine.proofs.Answers.{err_is}
use Rattle.initiator.proofs.Calls.{names_there, begin_on_lem, begun_by_tables, begun_by_names, begun_by_room, begun_at_last}
use Rattle.initiator.proofs.Initiator.begin.Goals as goal
use Rattle.initiator.proofs.Initiator.begin.Goals.{In_ok-tables}

-- ---- the tables

pub returns-in_err-tables : goal.returns-in_err-tables
returns-in_err-tables c =
    let a = c.args in
    let t = lent a.shape a.sent.now a.received.now in
    let whole =
    begun_by_tables t a.me a.purpose a.out.now c.from_residual.result c.in_err-tables.field-0.0
    (err_is _ _ c.from_residual.ensures.1 (λ f same. same))
    (refused_with _ t c.accept.ensures c.in_err-tables.was) in
    record { answer = whole.0; out_after = whole.1 }

-- the accepted tables are those that were lent
passes : (c : In_ok-tables) → let a = c.args in tables_question (lent a.shape a.sent.now a.received.now) ≡ 0
passes c = let a = c.args in passes_with _ (lent a.shape a.sent.now a.received.now) c.accept.ensures c.in_ok-tables.was

same_tables : (c : In_ok-tables) → let a = c.args in tables_in c.in_ok-tables.tables ≡ lent a.shape a.sent.now a.received.now
same_tables c = let a = c.args in tables_are _ (lent a.shape a.sent.now a.received.now) c.accept.ensures c.in_ok-tables.was

-- ---- the names

pub returns-in_err-begin_question : goal.returns-in_err-begin_question
returns-in_err-begin_question c =
    let a = c.args in
    let at = goal.at.returns-in_err-begin_question c in
    let whole =
    begun_by_names (lent a.shape a.sent.now a.received.now) a.me a.purpose a.out.now c.from_residual-in_err-begin_question.result
    c.in_err-begin_question.field-0.0
    (err_is _ _ c.from_residual-in_err-begin_question.ensures.1 (λ f same. same))
    (passes at.In_ok-tables)
    (refused_by _ _ c.begin_question.ensures c.in_err-begin_question.was) in
    record { answer = whole.0; out_after = whole.1 }

-- ---- the room

pub first_step-next-requires : goal.first_step-next-requires
first_step-next-requires c =
    let a = c.args in
    subst (λ (t : Tables). (1 ≤ a.me.0) × (a.me.0 ≤ t.shape.n)) (sym (same_tables (goal.at.first_step-next-requires c).In_ok-tables))
    (names_there a.shape.n a.me a.purpose (is_accepted _ _ c.begin_question.ensures c.in_ok-begin_question.was))

pub returns-in_err-lengths : goal.returns-in_err-lengths
returns-in_err-lengths c =
    let a = c.args in
    let t = lent a.shape a.sent.now a.received.now in
    let at = goal.at.returns-in_err-lengths c in
    let whole =
    begun_by_room t a.me a.purpose a.out.now (passes at.In_ok-tables)
    (is_accepted _ _ c.begin_question.ensures c.in_ok-begin_question.was)
    c.first_step-next.result c.send.new.out
    (begin_on_lem t a.me a.purpose (tables_in c.in_ok-tables.tables) c.first_step-next.result (same_tables at.In_ok-tables) c.first_step-next.ensures)
    c.send.ensures.out_after
    c.from_residual-in_err-lengths.result c.in_err-lengths.field-0.0
    (err_is _ _ c.from_residual-in_err-lengths.ensures.1 (λ f same. same))
    (refused_by _ _ c.send.ensures.answer c.in_err-lengths.was) in
    record { answer = whole.0; out_after = whole.1 }

pub returns : goal.returns
returns c =
    let a = c.args in
    let t = lent a.shape a.sent.now a.received.now in
    let at = goal.at.returns c in
    let whole =
    begun_at_last t a.me a.purpose a.out.now (passes at.In_ok-tables)
    (is_accepted _ _ c.begin_question.ensures c.in_ok-begin_question.was)
    c.first_step-next.result c.send.new.out
    (begin_on_lem t a.me a.purpose (tables_in c.in_ok-tables.tables) c.first_step-next.result (same_tables at.In_ok-tables) c.first_step-next.ensures)
    c.send.ensures.out_after
    c.in_ok-lengths.lengths
    (is_accepted _ _ c.send.ensures.answer c.in_ok-lengths.was)
    (value_is _ _ c.send.ensures.answer c.in_ok-lengths.was) in
    record { answer = whole.0; out_after = whole.1 }
