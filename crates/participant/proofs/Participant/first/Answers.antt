-- `first` meets its contract: at each return the tests that led there say which question fails first.
use mathlib.Core.Path.{◌≡◌, sym, ◌∙◌}
use mathlib.Core.Bool.{true}
use Prim.Native.Nat.{◌-◌, ◌≤◌, ◌<◌}
use native.Mathlib.Omega.{arith}
use Rattle.book.specs.declared.Question.TheVariants.{Named, Purpose}
use Rattle.book.specs.Lent.{lent}
use Rattle.book.specs.Check.{tables_question}
use Rattle.book.proofs.Refusals.{refused_by, is_accepted, hands_on, refuses, accepts}
use Rattle.line_theory.proofs.Accepted.{passed_size}
use Rattle.machine.specs.Named.{participant_named}
use Rattle.participant.specs.Calls.{first_state}
use Rattle.participant.proofs.Fitting.{named_there}
use Rattle.participant.proofs.Calls.{first_tables, first_unnamed, first_no_purpose, first_none, first_begun}
use Rattle.participant.proofs.Participant.first.Goals as goal
use Rattle.participant.proofs.Participant.first.Goals.{In_ok-check, Else-not-participant_named}

pub returns-in_err-check : goal.returns-in_err-check
returns-in_err-check c =
    let a = c.args in
    let tables = lent a.shape a.sent.now a.received.now in
    hands_on _ c.in_err-check.field-0.0 (first_state tables a.me a.initiator a.purpose) c.from_residual.ensures.1 (λ f same. same)
    (first_tables tables a.me a.initiator a.purpose c.in_err-check.field-0.0 (refused_by _ _ c.check.ensures c.in_err-check.was))

accepted : (c : In_ok-check) → let a = c.args in tables_question (lent a.shape a.sent.now a.received.now) ≡ 0
accepted c = is_accepted _ _ c.check.ensures c.in_ok-check.was

pub returns-then-not-participant_named : goal.returns-then-not-participant_named
returns-then-not-participant_named c =
    let a = c.args in
    let tables = lent a.shape a.sent.now a.received.now in
    refuses Named (first_state tables a.me a.initiator a.purpose)
    (first_unnamed tables a.me a.initiator a.purpose (accepted (goal.at.returns-then-not-participant_named c).In_ok-check)
    (sym c.participant_named.ensures ∙ c.if-not-participant_named.true))

named : (c : Else-not-participant_named) → let a = c.args in participant_named a.shape.n a.me.0 a.initiator.0 ≡ true
named c = sym c.participant_named.ensures ∙ c.if-not-participant_named.false

pub returns-then-not-is_purpose : goal.returns-then-not-is_purpose
returns-then-not-is_purpose c =
    let a = c.args in
    let tables = lent a.shape a.sent.now a.received.now in
    refuses Purpose (first_state tables a.me a.initiator a.purpose)
    (first_no_purpose tables a.me a.initiator a.purpose (accepted (goal.at.returns-then-not-is_purpose c).In_ok-check)
    (named (goal.at.returns-then-not-is_purpose c).Else-not-participant_named)
    (sym c.is_purpose.ensures ∙ c.if-not-is_purpose.true))

-- the process is there
within : (c : Else-not-participant_named) → (1 ≤ c.args.me.0) × (c.args.me.0 - 1 < 16)
within c =
    let a = c.args in
    let there = (named_there a.shape.n a.me.0 a.initiator.0 (named c)).0 in
    let size = passed_size (lent a.shape a.sent.now a.received.now) (is_accepted _ _ c.check.ensures c.in_ok-check.was) in
    (there.0, omega (arith, there, size))

pub overflow_sub-place : goal.overflow_sub-place
overflow_sub-place c = (within (goal.at.overflow_sub-place c).Else-not-participant_named).0

pub offset_bounds-counts-place : goal.offset_bounds-counts-place
offset_bounds-counts-place c = omega (arith, within (goal.at.offset_bounds-counts-place c).Else-not-participant_named)

pub bounds-counts-place : goal.bounds-counts-place
bounds-counts-place c = (within (goal.at.bounds-counts-place c).Else-not-participant_named).1

pub before-requires : goal.before-requires
before-requires c = (within (goal.at.before-requires c).Else-not-participant_named).0

pub returns : goal.returns
returns c =
    let a = c.args in
    let tables = lent a.shape a.sent.now a.received.now in
    let none =
    first_none tables a.me a.initiator a.purpose (accepted (goal.at.returns c).In_ok-check)
    (named (goal.at.returns c).Else-not-participant_named)
    (sym c.is_purpose.ensures ∙ c.if-not-is_purpose.false) in
    accepts none (first_begun tables a.me a.initiator a.purpose c.before-2.result none c.before-2.ensures)
