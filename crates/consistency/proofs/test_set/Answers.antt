-- `test_set` meets its contract.
use mathlib.Core.Path.{◌≡◌, sym, ap, subst, ◌∙◌}
use mathlib.Core.Bool.{true}
use Rattle.std.specs.Prelude.{Option}
use Rattle.accepted.specs.Holding.{tables_in}
use Rattle.accepted.proofs.Accepting.{refused_with, not_with, passes_with, tables_are}
use Rattle.book.specs.declared.Process.{Process}
use Rattle.book.specs.declared.Question.TheVariants.{Exists}
use Rattle.book.specs.Lent.{Tables, lent}
use Rattle.book.proofs.Refusals.{hands_on, refuses, accepts}
use Rattle.line_theory.specs.Sets.{first_fault}
use Rattle.line_theory.specs.OfTables.{view_of}
use Rattle.line_theory.proofs.Accepted.{accepted_size}
use Rattle.consistency.specs.Set.{chosen, all_there, shown_as, answer_to_test}
use Rattle.consistency.proofs.Calls.{test_refused, test_missing, test_passed}
use Rattle.consistency.proofs.There.{there_present}
use Rattle.consistency.proofs.test_set.Goals as goal
use Rattle.consistency.proofs.test_set.Goals.{Else-not-all_there}

pub returns-in_err-tables : goal.returns-in_err-tables
unfolding answer_to_test
returns-in_err-tables c =
    let a = c.args in
    let t = lent a.shape a.sent.now a.received.now in
    let h = c.accept.ensures in
    let was = c.in_err-tables.was in
    hands_on _ c.in_err-tables.field-0.0 (shown_as (first_fault (view_of t) (chosen a.set))) c.from_residual.ensures.1 (λ f same. same)
    (test_refused t a.set (not_with _ t h was) ∙ refused_with _ t h was)

pub returns-then-not-all_there : goal.returns-then-not-all_there
unfolding answer_to_test
returns-then-not-all_there c =
    let a = c.args in
    let t = lent a.shape a.sent.now a.received.now in
    refuses Exists (shown_as (first_fault (view_of t) (chosen a.set)))
    (test_missing t a.set (passes_with _ t c.accept.ensures c.in_ok-tables.was) (sym c.all_there.ensures ∙ c.if-not-all_there.true))

-- the accepted tables are those that were lent, and the set is there
same_tables : (c : Else-not-all_there) → let a = c.args in tables_in c.in_ok-tables.tables ≡ lent a.shape a.sent.now a.received.now
same_tables c = let a = c.args in tables_are _ (lent a.shape a.sent.now a.received.now) c.accept.ensures c.in_ok-tables.was

all_named : (c : Else-not-all_there) → let a = c.args in all_there a.shape a.set ≡ true
all_named c = sym c.all_there.ensures ∙ c.if-not-all_there.false

pub test_pairs-requires : goal.test_pairs-requires
test_pairs-requires c =
    let at = (goal.at.test_pairs-requires c).Else-not-all_there in
    let tables = c.in_ok-tables.tables in
    there_present tables.rows.shape c.args.set (accepted_size tables.passed.accepted).1
    (subst (λ (t : Tables). all_there t.shape c.args.set ≡ true) (sym (same_tables at)) (all_named at))

pub returns : goal.returns
unfolding answer_to_test
returns c =
    let a = c.args in
    let at = (goal.at.returns c).Else-not-all_there in
    let t = lent a.shape a.sent.now a.received.now in
    let shown : Tables → Option (Process × Process) = λ t. shown_as (first_fault (view_of t) (chosen a.set)) in
    accepts (test_passed t a.set (passes_with _ t c.accept.ensures c.in_ok-tables.was) (all_named at))
    (c.test_pairs.ensures ∙ ap shown (same_tables at))
