-- `find_line` meets its contract.
use mathlib.Core.Path.{◌≡◌, sym, ap, subst, ◌∙◌}
use mathlib.Core.List.{List}
use Rattle.accepted.specs.Holding.{tables_in}
use Rattle.accepted.proofs.Accepting.{refused_with, passes_with, tables_are}
use Rattle.book.specs.declared.Checkpoint.{Checkpoint}
use Rattle.book.specs.Lent.{Tables, lent}
use Rattle.book.specs.View.{count}
use Rattle.book.specs.Accepted.{AreAccepted}
use Rattle.book.proofs.Refusals.{hands_on, accepts}
use Rattle.line_theory.specs.Sets.{cut}
use Rattle.line_theory.specs.OfTables.{view_of}
use Rattle.consistency.specs.Set.{chosen}
use Rattle.finder.specs.Line.{checkpoints, found_in, IsLineOf}
use Rattle.finder.specs.Steps.{AbsentZero}
use Rattle.consistency.specs.Given.{AllNamed}
use Rattle.finder.proofs.Calls.{newest_named, newest_absent, found_is}
use Rattle.finder.proofs.find_line.Goals as goal
use Rattle.finder.proofs.find_line.Goals.{In_ok-tables}

pub returns-in_err-tables : goal.returns-in_err-tables
returns-in_err-tables c = let a = c.args in
    let t = lent a.shape a.sent.now a.received.now in
    hands_on _ c.in_err-tables.field-0.0 (found_in t) c.from_residual.ensures.1 (λ f same. same)
    (refused_with _ t c.accept.ensures c.in_err-tables.was)

-- the accepted tables are those that were lent
same_tables : (c : In_ok-tables) → let a = c.args in tables_in c.in_ok-tables.tables ≡ lent a.shape a.sent.now a.received.now
same_tables c = let a = c.args in tables_are _ (lent a.shape a.sent.now a.received.now) c.accept.ensures c.in_ok-tables.was

pub find_from-requires : goal.find_from-requires
find_from-requires c =
    let rows = c.in_ok-tables.tables.rows in
    let given = c.in_ok-tables.tables.passed.accepted in
    let newest : checkpoints (count rows.shape) ≡ c.newest_set.result
    = ap (λ (t : Tables). checkpoints (count t.shape)) (same_tables (goal.at.find_from-requires c).In_ok-tables) ∙ sym c.newest_set.ensures in record {
      all_named = subst (AllNamed rows.shape) newest (newest_named given);
      absent_zero = subst (AbsentZero rows) newest (newest_absent given);
    }

pub returns : goal.returns
returns c = let a = c.args in
    let at = (goal.at.returns c).In_ok-tables in
    let t = lent a.shape a.sent.now a.received.now in
    let found = c.find_from.result in
    let of_lent : IsLineOf (cut (view_of t) (chosen c.newest_set.result)) found
    = subst (λ (t : Tables). IsLineOf (cut (view_of t) (chosen c.newest_set.result)) found) (same_tables at) c.find_from.ensures in
    accepts (passes_with _ t c.accept.ensures c.in_ok-tables.was)
    (found_is (subst AreAccepted (same_tables at) c.in_ok-tables.tables.passed.accepted) found
    (subst (λ (s : List Checkpoint). IsLineOf (cut (view_of t) (chosen s)) found) c.newest_set.ensures of_lent))
