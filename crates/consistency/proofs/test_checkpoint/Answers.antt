-- `test_checkpoint` meets its contract.
use mathlib.Core.Path.{◌≡◌, sym, ap, subst, ◌∙◌}
use mathlib.Core.Bool.{true}
use Prim.Native.Nat.{◌-◌, ◌≤◌}
use native.Mathlib.Omega.{arith}
use Rattle.std.specs.Prelude.{Option}
use Rattle.accepted.specs.Holding.{tables_in}
use Rattle.accepted.proofs.Accepting.{refused_with, not_with, passes_with, tables_are}
use Rattle.book.specs.declared.Process.{Process}
use Rattle.book.specs.declared.Question.TheVariants.{Named, Exists}
use Rattle.book.specs.Lent.{Tables, lent}
use Rattle.book.specs.Check.{tables_question}
use Rattle.book.specs.Names.{is_named}
use Rattle.book.specs.View.{count}
use Rattle.book.proofs.Names.{named_in}
use Rattle.book.proofs.Refusals.{hands_on, refuses, accepts}
use Rattle.line_theory.proofs.Accepted.{passed_size}
use Rattle.consistency.specs.Known.{counters, named_as, offending, column_question, answer_to_column}
use Rattle.consistency.proofs.Calls.{received_whole, column_tables, column_unnamed, column_missing, column_asked, column_passed}
use Rattle.consistency.proofs.test_checkpoint.Goals as goal
use Rattle.consistency.proofs.test_checkpoint.Goals.{In_ok-tables, Else-not-is_named, Else-not-is_there}

pub returns-in_err-tables : goal.returns-in_err-tables
unfolding answer_to_column
returns-in_err-tables c =
    let a = c.args in
    let t = lent a.shape a.sent.now a.received.now in
    let h = c.accept.ensures in
    let was = c.in_err-tables.was in
    hands_on _ c.in_err-tables.field-0.0 (named_as (offending t a.j.0 a.r.0 (counters a.known))) c.from_residual.ensures.1 (λ f same. same)
    (column_tables t a.j.0 a.r.0 (not_with _ t h was) ∙ refused_with _ t h was)

pub returns-then-not-is_named : goal.returns-then-not-is_named
unfolding answer_to_column
returns-then-not-is_named c =
    let a = c.args in
    let t = lent a.shape a.sent.now a.received.now in
    refuses Named (named_as (offending t a.j.0 a.r.0 (counters a.known)))
    (column_unnamed t a.j.0 a.r.0 (passes_with _ t c.accept.ensures c.in_ok-tables.was) (sym c.is_named.ensures ∙ c.if-not-is_named.true))

-- what is known once the tables have passed, and the process
passed : (c : Else-not-is_named) → let a = c.args in tables_question (lent a.shape a.sent.now a.received.now) ≡ 0
passed c = let a = c.args in passes_with _ (lent a.shape a.sent.now a.received.now) c.accept.ensures c.in_ok-tables.was

named : (c : Else-not-is_named) → let a = c.args in is_named a.shape.n a.j.0 ≡ true
named c = sym c.is_named.ensures ∙ c.if-not-is_named.false

within : (c : Else-not-is_named) → let j = c.args.j.0 in (1 ≤ j) × (j ≤ 16)
within c =
    let a = c.args in
    let one_of = named_in a.shape.n a.j.0 (named c) in
    (one_of.0, omega (arith, one_of.1, (passed_size (lent a.shape a.sent.now a.received.now) (passed c)).1))

pub offset_bounds-shape-place : goal.offset_bounds-shape-place
offset_bounds-shape-place c = omega (arith, (within (goal.at.offset_bounds-shape-place c).Else-not-is_named).1)

pub bounds-shape-place : goal.bounds-shape-place
bounds-shape-place c =
    let j = within (goal.at.bounds-shape-place c).Else-not-is_named in
    omega (arith, j.0, j.1)

pub returns-then-not-is_there : goal.returns-then-not-is_there
unfolding answer_to_column
returns-then-not-is_there c =
    let a = c.args in
    let t = lent a.shape a.sent.now a.received.now in
    let at = (goal.at.returns-then-not-is_there c).Else-not-is_named in
    refuses Exists (named_as (offending t a.j.0 a.r.0 (counters a.known)))
    (column_missing t a.j.0 a.r.0 (passed at) (named at) (sym c.is_there.ensures ∙ c.if-not-is_there.true))

-- no question refuses
asked : (c : Else-not-is_there) → let a = c.args in column_question (lent a.shape a.sent.now a.received.now) a.j.0 a.r.0 ≡ 0
asked c =
    let a = c.args in
    let t = lent a.shape a.sent.now a.received.now in
    column_asked t a.j.0 a.r.0 (passes_with _ t c.accept.ensures c.in_ok-tables.was) (sym c.is_named.ensures ∙ c.if-not-is_named.false)
    (sym c.is_there.ensures ∙ c.if-not-is_there.false)

-- the accepted tables are those that were lent
same_tables : (c : In_ok-tables) → let a = c.args in tables_in c.in_ok-tables.tables ≡ lent a.shape a.sent.now a.received.now
same_tables c = let a = c.args in tables_are _ (lent a.shape a.sent.now a.received.now) c.accept.ensures c.in_ok-tables.was

pub test_row-requires : goal.test_row-requires
test_row-requires c =
    let a = c.args in
    let at = goal.at.test_row-requires c in
    let asked = column_passed (lent a.shape a.sent.now a.received.now) a.j.0 a.r.0 (asked at.Else-not-is_there) in
    let there
    = subst (λ (t : Tables). ((1 ≤ a.j.0) × (a.j.0 ≤ t.shape.n)) × ((1 ≤ a.r.0) × (a.r.0 ≤ count t.shape (a.j.0 - 1))))
    (sym (same_tables at.In_ok-tables)) (asked.process, asked.checkpoint) in record {
      whole = (received_whole c.in_ok-tables.tables.passed, there.0);
      le_r = there.1;
    }

pub returns : goal.returns
unfolding answer_to_column
returns c =
    let a = c.args in
    let at = goal.at.returns c in
    let shown : Tables → Option Process = λ t. named_as (offending t a.j.0 a.r.0 (counters a.known)) in
    accepts (asked at.Else-not-is_there) (c.test_row.ensures ∙ ap shown (same_tables at.In_ok-tables))
