use mathlib.Core.Path.{◌≡◌, ◌∙◌}
use native.Mathlib.Omega.{arith}
use borrow.Author.Rules.{rules}
use lib.ListN.{length}
use Rattle.book.proofs.Fits.{rows_fit, first_inside}
use Rattle.tables.proofs.UnusedLoop.{cleared_none, cleared_fails, cleared_more, cleared_end}
use Rattle.tables.proofs.unused_zero.Goals as goal

pub loop-j-init : goal.loop-j-init
loop-j-init c = let a = c.args.shape in
    let long : length a.counts ≡ 16 = search rules in
    cleared_none _ _ _ c.requires long

pub process_unused_zero-is_zero-requires : goal.process_unused_zero-is_zero-requires
process_unused_zero-is_zero-requires c = let w = c.loop-j.invariant in
    rows_fit w.in_table c.loop-j-test.true w.placed.starts

pub returns-then-not-is_zero : goal.returns-then-not-is_zero
returns-then-not-is_zero c = cleared_fails _ _ _ _ _ _ c.loop-j.invariant c.loop-j-test.true _ c.process_unused_zero-is_zero.ensures c.if-not-is_zero.true

pub overflow_add-first : goal.overflow_add-first
overflow_add-first c = let w = c.loop-j.invariant in
    let fits = rows_fit w.in_table c.loop-j-test.true w.placed.starts in
    omega (arith, fits.inside)

pub loop-j-preserved : goal.loop-j-preserved
loop-j-preserved c = cleared_more _ _ _ _ _ _ c.loop-j.invariant c.loop-j-test.true _ c.process_unused_zero-is_zero.ensures c.if-not-is_zero.false

pub overflow_mul-first : goal.overflow_mul-first
overflow_mul-first c = let w = c.loop-j.invariant in
    omega (arith, first_inside w.in_table w.placed.passed w.placed.starts)

pub all_zero-requires : goal.all_zero-requires
all_zero-requires c = let w = c.loop-j.invariant in
    omega (arith, first_inside w.in_table w.placed.passed w.placed.starts)

pub returns : goal.returns
returns c = c.all_zero.ensures ∙ cleared_end _ _ _ _ _ _ c.loop-j.invariant c.loop-j-test.false
