-- `start` meets its contract: at each return the tests that led there say which question fails first.
use mathlib.Core.Path.{◌≡◌, ap, subst, ◌∙◌}
use Prim.Native.Nat.{◌≤◌}
use Rattle.accepted.specs.Holding.{tables_in}
use Rattle.accepted.proofs.Accepting.{refused_with, tables_are}
use Rattle.book.specs.InTurn.{answer_with}
use Rattle.book.specs.Lent.{Tables, lent}
use Rattle.book.specs.Numbers.{number}
use Rattle.book.proofs.Refusals.{refused_by, is_accepted, hands_on}
use Rattle.line_theory.proofs.Accepted.{accepted_size}
use Rattle.session.specs.Calls.{start_question, session_started, strands_started}
use Rattle.turns.proofs.Starting.{named, start_tables, start_named, start_posted, start_kept, start_there, start_initiator}
use Rattle.turns.proofs.start.Goals as goal
use Rattle.turns.proofs.start.Goals.{In_ok-begin_question}

pub returns-in_err-tables : goal.returns-in_err-tables
returns-in_err-tables c = let a = c.args in
    let t = lent a.shape a.sent.now a.received.now in
    let e = c.in_err-tables.field-0.0 in
    let fails = start_tables t a.initiator a.purpose a.strands.now e (refused_with _ t c.accept.ensures c.in_err-tables.was) in
    record { answer = hands_on _ e _ c.from_residual.ensures.1 (λ f same. same) fails; strands_after = start_kept t a.initiator a.purpose a.strands.now e fails }

pub returns-in_err-begin_question : goal.returns-in_err-begin_question
returns-in_err-begin_question c = let a = c.args in
    let t = lent a.shape a.sent.now a.received.now in
    let tables = c.in_ok-tables.tables in
    let e = c.in_err-begin_question.field-0.0 in
    let fails = subst (λ (u : Tables). start_question u a.initiator a.purpose a.strands.now ≡ number e)
    (tables_are _ t c.accept.ensures c.in_ok-tables.was)
    (start_named (tables_in tables) a.initiator a.purpose a.strands.now tables.passed.accepted.passed e
    (refused_by _ _ c.begin_question.ensures c.in_err-begin_question.was)) in
    record { answer = hands_on _ e _ c.from_residual-in_err-begin_question.ensures.1 (λ f same. same) fails; strands_after = start_kept t a.initiator a.purpose a.strands.now e fails }

-- the initiator is named, and a process that there is
unnamed : (c : In_ok-begin_question) → let a = c.args in named (tables_in c.in_ok-tables.tables) a.initiator a.purpose a.strands.now ≡ 0
unnamed c = is_accepted _ _ c.begin_question.ensures c.in_ok-begin_question.was

there : (c : In_ok-begin_question) → let a = c.args in (1 ≤ a.initiator.0) × (a.initiator.0 ≤ c.in_ok-tables.tables.rows.shape.n)
there c = let a = c.args in start_there (tables_in c.in_ok-tables.tables) a.initiator a.purpose a.strands.now (unnamed c)

pub begin-begun-requires : goal.begin-begun-requires
begin-begun-requires c = there (goal.at.begin-begun-requires c).In_ok-begin_question

pub post_if_room-requires : goal.post_if_room-requires
post_if_room-requires c = let a = c.args in
    let tables = c.in_ok-tables.tables in
    let at = (goal.at.post_if_room-requires c).In_ok-begin_question in
    record { le_n = accepted_size tables.passed.accepted; le_initiator = start_initiator (tables_in tables) a.initiator a.purpose a.strands.now c.begin-begun.result c.begin-begun.ensures (there at).0 }

pub returns : goal.returns
returns c = let a = c.args in
    let t = lent a.shape a.sent.now a.received.now in
    let tables = c.in_ok-tables.tables in
    let at = (goal.at.returns c).In_ok-begin_question in
    let done = c.post_if_room in
    let same = tables_are _ t c.accept.ensures c.in_ok-tables.was in
    let whole = start_posted (tables_in tables) a.initiator a.purpose a.strands.now tables.passed.accepted.passed (unnamed at) c.begin-begun.result c.begin-begun.ensures done.result
    c.post_if_room.new.strands
    (c.post_if_room.ensures.answer, c.post_if_room.ensures.strands_after) in
    record {
      answer = whole.0 ∙ ap (λ (u : Tables). answer_with (start_question u a.initiator a.purpose a.strands.now) (session_started u a.initiator a.purpose a.strands.now)) same;
      strands_after = whole.1 ∙ ap (λ (u : Tables). strands_started u a.initiator a.purpose a.strands.now) same;
    }
