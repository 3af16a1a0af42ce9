use Rattle.matrix.proofs.Sweep.{below_none, below_next, below_all}
use Rattle.matrix.proofs.whole.all_none_above.Goals as goal

pub loop-i-init : goal.loop-i-init
loop-i-init c = below_none _ _

pub loop-i-preserved : goal.loop-i-preserved
loop-i-preserved c = below_next _ _ _ _ c.loop-i.invariant c.loop-i-test.true _ c.still_below-below.ensures

pub returns : goal.returns
returns c = below_all _ _ _ _ c.loop-i.invariant c.loop-i-test.false
