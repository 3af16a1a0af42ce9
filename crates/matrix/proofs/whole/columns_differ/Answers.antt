use Rattle.matrix.proofs.Sweep.{differ_none, differ_next, differ_all}
use Rattle.matrix.proofs.whole.columns_differ.Goals as goal

pub loop-i-init : goal.loop-i-init
loop-i-init c = differ_none _ _

pub loop-i-preserved : goal.loop-i-preserved
loop-i-preserved c = differ_next _ _ _ _ c.loop-i.invariant c.loop-i-test.true _ c.or_differ.ensures

pub returns : goal.returns
returns c = differ_all _ _ _ _ c.loop-i.invariant c.loop-i-test.false
