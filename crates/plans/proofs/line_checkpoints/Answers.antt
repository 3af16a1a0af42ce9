-- `line_checkpoints` meets its contract.
use mathlib.Core.Path.{sym, subst, ◌∙◌}
use mathlib.Core.List.{List}
use Rattle.accepted.specs.Holding.{tables_in}
use Rattle.book.specs.declared.Checkpoint.{Checkpoint}
use Rattle.line_theory.specs.Sets.{cut}
use Rattle.line_theory.specs.OfTables.{view_of}
use Rattle.consistency.specs.Set.{chosen}
use Rattle.consistency.specs.Given.{AllNamed}
use Rattle.finder.specs.Line.{IsLineOf}
use Rattle.finder.specs.Steps.{AbsentZero}
use Rattle.finder.proofs.Calls.{newest_named, newest_absent}
use Rattle.plans.proofs.Given.{few_processes, line_stays, line_advanced}
use Rattle.plans.proofs.line_checkpoints.Goals as goal

pub oldest_set-requires : goal.oldest_set-requires
oldest_set-requires c = few_processes c.args.tables.now.passed.accepted

pub returns-then-not-advances : goal.returns-then-not-advances
returns-then-not-advances c = let a = c.args in
    let asked = c.advances in
    c.oldest_set.ensures
    ∙ line_stays (view_of (tables_in a.tables.now)) a.purpose
    (sym asked.ensures ∙ c.if-not-advances.true)

pub find_from-requires : goal.find_from-requires
find_from-requires c = let t = c.args.tables.now in
    let newest = sym c.newest_set-newest.ensures in
    record {
      all_named = subst (AllNamed t.rows.shape) newest (newest_named t.passed.accepted);
      absent_zero = subst (AbsentZero t.rows) newest (newest_absent t.passed.accepted);
    }

pub returns : goal.returns
returns c = let a = c.args in
    let v = view_of (tables_in a.tables.now) in
    let asked = c.advances in
    let found = c.find_from in
    line_advanced a.tables.now.passed.accepted a.purpose found.result
    (sym asked.ensures ∙ c.if-not-advances.false)
    (subst (λ (s : List Checkpoint). IsLineOf (cut v (chosen s)) found.result) c.newest_set-newest.ensures found.ensures)
