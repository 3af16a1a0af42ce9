use native.Mathlib.Omega.{arith}
use Rattle.lists.proofs.Filling.{filled_none, filled_more}
use Rattle.plans.proofs.Filled.{filled_numbers}
use Rattle.plans.proofs.kept_from.Goals as goal

pub loop-j-init : goal.loop-j-init
loop-j-init c = filled_none (omega arith)

pub are_kept-requires : goal.are_kept-requires
are_kept-requires c = c.requires.1 c.loop-j.j c.loop-j-test.true

pub loop-j-preserved : goal.loop-j-preserved
loop-j-preserved c = filled_more c.loop-j.invariant c.loop-j-test.true c.are_kept.ensures

pub returns : goal.returns
returns c = filled_numbers c.loop-j.invariant c.loop-j-test.false
