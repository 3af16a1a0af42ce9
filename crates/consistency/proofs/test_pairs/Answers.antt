use native.Mathlib.Omega.{arith}
use Rattle.accepted.specs.Holding.{tables_in}
use Rattle.line_theory.specs.OfTables.{view_of}
use Rattle.lists.proofs.Before.{before_none, before_more, before_all}
use Rattle.line_theory.proofs.Accepted.{accepted_book}
use Rattle.consistency.specs.Set.{chosen}
use Rattle.consistency.proofs.Calls.{named_is_set}
use Rattle.consistency.proofs.Pairs.{pair_shown, pair_none, pairs_none}
use Rattle.consistency.proofs.test_pairs.Goals as goal

pub loop-j-init : goal.loop-j-init
loop-j-init c = before_none

pub test_in_set-requires : goal.test_in_set-requires
test_in_set-requires c = record { is_process = (omega arith, omega arith); all_named = c.requires }

pub returns-in-Some : goal.returns-in-Some
returns-in-Some c =
    let told = c.test_in_set in
    pair_shown c.loop-j.j told.result c.in-Some.p (accepted_book c.args.tables.now.passed.accepted) (named_is_set c.requires) c.loop-j.invariant (omega arith) c.in-Some.is told.ensures

pub loop-j-preserved : goal.loop-j-preserved
loop-j-preserved c = let a = c.args in
    let v = view_of (tables_in a.tables.now) in
    let told = c.test_in_set in
    before_more c.loop-j.invariant (omega arith) (pair_none v (chosen a.set) c.loop-j.j told.result c.in_default.is told.ensures)

pub returns : goal.returns
returns c = let a = c.args in
    pairs_none (view_of (tables_in a.tables.now)) (chosen a.set) (before_all c.loop-j.invariant (omega arith))
