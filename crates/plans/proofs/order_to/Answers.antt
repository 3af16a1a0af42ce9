use mathlib.Core.Path.{refl}
use native.Mathlib.Omega.{arith}
use Rattle.lists.proofs.Filling.{filled_none, filled_more}
use Rattle.plans.proofs.Filled.{filled_numbers}
use Rattle.plans.proofs.order_to.Goals as goal

pub loop-j-init : goal.loop-j-init
loop-j-init c = (filled_none (omega arith), filled_none (omega arith))

pub overflow_sub-before : goal.overflow_sub-before
overflow_sub-before c = omega (arith, (c.requires.1 c.loop-j.j c.loop-j-test.true).0)

pub go_after-requires : goal.go_after-requires
go_after-requires c = let at-loop = c.loop-j in
    (c.requires.1 at-loop.j c.loop-j-test.true).1

pub loop-j-preserved : goal.loop-j-preserved
loop-j-preserved c = let at-loop = c.loop-j in
    let more = c.loop-j-test.true in
    (filled_more at-loop.invariant.0 more refl, filled_more at-loop.invariant.1 more c.go_after.ensures)

pub returns : goal.returns
returns c = let filled = c.loop-j.invariant in
    record { from_value = (refl, refl); before_value = filled_numbers filled.0 c.loop-j-test.false; after_value = filled_numbers filled.1 c.loop-j-test.false }
