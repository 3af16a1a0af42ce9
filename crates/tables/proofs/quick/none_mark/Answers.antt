use borrow.Author.Rules.{rules}
use Rattle.tables.proofs.Sweeps.{swept_none, swept_more, swept_end}
use Rattle.tables.proofs.quick.none_mark.Goals as goal

pub loop-i-init : goal.loop-i-init
loop-i-init c = swept_none _ _ _ (search rules)

pub loop-i-preserved : goal.loop-i-preserved
loop-i-preserved c = swept_more _ _ _ _ _ c.loop-i.invariant c.loop-i-test.true _ c.still_known-known.ensures

pub returns : goal.returns
returns c = swept_end _ _ _ _ _ c.loop-i.invariant c.loop-i-test.false
