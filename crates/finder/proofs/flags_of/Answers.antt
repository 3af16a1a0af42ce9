use native.Mathlib.Omega.{arith}
use Rattle.lists.proofs.Filling.{filled_none, filled_more}
use Rattle.finder.proofs.flags_of.Goals as goal

pub loop-j-init : goal.loop-j-init
loop-j-init c = filled_none (omega arith)

pub must_step_back-requires : goal.must_step_back-requires
must_step_back-requires c = (c.requires, c.loop-j-test.true)

pub bounds-flags-j : goal.bounds-flags-j
bounds-flags-j c = omega (arith, c.requires.most)

pub loop-j-preserved : goal.loop-j-preserved
loop-j-preserved c = filled_more c.loop-j.invariant (omega arith) c.must_step_back.ensures

pub returns : goal.returns
returns c = λ j i. c.loop-j.invariant.done j (omega arith)
