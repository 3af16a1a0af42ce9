-- `turn` meets its contract: at each return the tests that led there say which question fails first.
use mathlib.Core.Path.{◌≡◌, ap, subst, ◌∙◌}
use mathlib.Core.Bool.{true}
use Prim.Native.Nat.{◌-◌, ◌≤◌, ◌<◌}
use native.Mathlib.Omega.{arith}
use Rattle.accepted.specs.Holding.{tables_in}
use Rattle.accepted.proofs.Accepting.{refused_with, tables_are}
use Rattle.book.specs.declared.Question.TheVariants.{Waiting}
use Rattle.book.specs.InTurn.{answer_with}
use Rattle.book.specs.Lent.{Tables, lent}
use Rattle.book.specs.Numbers.{number}
use Rattle.book.proofs.Refusals.{refused_by, is_accepted, hands_on, refuses}
use Rattle.line_theory.proofs.Accepted.{accepted_size}
use Rattle.machine.specs.Named.{participant_named}
use Rattle.session.specs.Calls.{turn_question, session_after, strands_after}
use Rattle.turns.proofs.Turning.{participant_there, is_participant_lem, of_session, turn_tables, turn_session, turn_nothing, turn_posted, turn_kept, turn_initiator, passed_names, passed_fits}
use Rattle.turns.proofs.turn.Goals as goal
use Rattle.turns.proofs.turn.Goals.{In_ok-session_question}

pub returns-in_err-tables : goal.returns-in_err-tables
returns-in_err-tables c = let a = c.args in
    let t = lent a.shape a.sent.now a.received.now in
    let e = c.in_err-tables.field-0.0 in
    let fails = turn_tables t a.session a.p a.strands.now e (refused_with _ t c.accept.ensures c.in_err-tables.was) in
    record { answer = hands_on _ e _ c.from_residual.ensures.1 (λ f same. same) fails; strands_after = turn_kept t a.session a.p a.strands.now e fails }

pub returns-in_err-session_question : goal.returns-in_err-session_question
returns-in_err-session_question c = let a = c.args in
    let t = lent a.shape a.sent.now a.received.now in
    let tables = c.in_ok-tables.tables in
    let e = c.in_err-session_question.field-0.0 in
    let fails = subst (λ (u : Tables). turn_question u a.session a.p a.strands.now ≡ number e)
    (tables_are _ t c.accept.ensures c.in_ok-tables.was)
    (turn_session (tables_in tables) a.session a.p a.strands.now tables.passed.accepted.passed e
    (refused_by _ _ c.session_question.ensures c.in_err-session_question.was)) in
    record { answer = hands_on _ e _ c.from_residual-in_err-session_question.ensures.1 (λ f same. same) fails; strands_after = turn_kept t a.session a.p a.strands.now e fails }

-- what the passed questions say: the process is named, a process that there is, and so is the initiator
passes : (c : In_ok-session_question) → let a = c.args in of_session (tables_in c.in_ok-tables.tables) a.session a.p a.strands.now ≡ 0
passes c = is_accepted _ _ c.session_question.ensures c.in_ok-session_question.was

named : (c : In_ok-session_question) → let a = c.args in participant_named c.in_ok-tables.tables.rows.shape.n a.p.0 a.session.initiator.0 ≡ true
named c = let a = c.args in passed_names (tables_in c.in_ok-tables.tables) a.session a.p a.strands.now (passes c)

there : (c : In_ok-session_question)
    → let a = c.args in
    let n = c.in_ok-tables.tables.rows.shape.n in
    ((1 ≤ a.p.0) × (a.p.0 ≤ n)) × ((1 ≤ a.session.initiator.0) × (a.session.initiator.0 ≤ n))
there c = let a = c.args in participant_there c.in_ok-tables.tables.rows.shape.n a.p.0 a.session.initiator.0 (named c)

few : (c : In_ok-session_question) → c.args.p.0 - 1 < 16
few c = omega (arith, accepted_size c.in_ok-tables.tables.passed.accepted, there c)

pub overflow_sub-place : goal.overflow_sub-place
overflow_sub-place c = (there (goal.at.overflow_sub-place c).In_ok-session_question).0.0

pub offset_bounds-lengths-place : goal.offset_bounds-lengths-place
offset_bounds-lengths-place c = omega (arith, few (goal.at.offset_bounds-lengths-place c).In_ok-session_question)

pub bounds-lengths-place : goal.bounds-lengths-place
bounds-lengths-place c = few (goal.at.bounds-lengths-place c).In_ok-session_question

pub returns-then-lengths-place-eq0 : goal.returns-then-lengths-place-eq0
returns-then-lengths-place-eq0 c = let a = c.args in
    let t = lent a.shape a.sent.now a.received.now in
    let tables = c.in_ok-tables.tables in
    let at = (goal.at.returns-then-lengths-place-eq0 c).In_ok-session_question in
    let fails = subst (λ (u : Tables). turn_question u a.session a.p a.strands.now ≡ 18)
    (tables_are _ t c.accept.ensures c.in_ok-tables.was)
    (turn_nothing (tables_in tables) a.session a.p a.strands.now tables.passed.accepted.passed (passes at) c.if-lengths-place-eq0.true) in
    record { answer = refuses Waiting _ fails; strands_after = turn_kept t a.session a.p a.strands.now Waiting fails }

pub deliver-turned-requires : goal.deliver-turned-requires
deliver-turned-requires c = let a = c.args in
    let tables = c.in_ok-tables.tables in
    let at = (goal.at.deliver-turned-requires c).In_ok-session_question in
    record {
      strands_value = passed_fits (tables_in tables) a.session a.p a.strands.now (passes at);
      le_initiator = (there at).1;
      k_value = is_participant_lem tables.rows.shape.n a.p.0 a.session.initiator.0 (named at);
      fact = c.if-lengths-place-eq0.false;
    }

pub post_if_room-requires : goal.post_if_room-requires
post_if_room-requires c = let a = c.args in
    let tables = c.in_ok-tables.tables in
    let at = (goal.at.post_if_room-requires c).In_ok-session_question in
    record {
      le_n = accepted_size tables.passed.accepted;
      le_initiator = turn_initiator (tables_in tables) a.session a.p a.strands.now c.deliver-turned.result c.deliver-turned.ensures (there at).1.0;
    }

pub returns : goal.returns
returns c = let a = c.args in
    let t = lent a.shape a.sent.now a.received.now in
    let tables = c.in_ok-tables.tables in
    let at = (goal.at.returns c).In_ok-session_question in
    let done = c.post_if_room in
    let same = tables_are _ t c.accept.ensures c.in_ok-tables.was in
    let whole = turn_posted (tables_in tables) a.session a.p a.strands.now tables.passed.accepted.passed (passes at) c.if-lengths-place-eq0.false
    c.deliver-turned.result
    c.deliver-turned.ensures
    done.result
    c.post_if_room.new.strands
    (c.post_if_room.ensures.answer, c.post_if_room.ensures.strands_after) in
    record {
      answer = whole.0 ∙ ap (λ (u : Tables). answer_with (turn_question u a.session a.p a.strands.now) (session_after u a.session a.p a.strands.now)) same;
      strands_after = whole.1 ∙ ap (λ (u : Tables). strands_after u a.session a.p a.strands.now) same;
    }
