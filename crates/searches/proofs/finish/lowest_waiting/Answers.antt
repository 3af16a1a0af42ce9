use Rattle.lists.proofs.Before.{before_none, before_more}
use Rattle.searches.proofs.Lowest.{lowest_in, none_in}
use Rattle.searches.proofs.finish.lowest_waiting.Goals as goal

pub loop-k-init : goal.loop-k-init
loop-k-init c = before_none

pub returns-then-lengths-k-ne0 : goal.returns-then-lengths-k-ne0
returns-then-lengths-k-ne0 c = lowest_in c.args.lengths c.loop-k.k c.loop-k.invariant
    c.loop-k-test.true c.if-lengths-k-ne0.true

pub loop-k-preserved : goal.loop-k-preserved
loop-k-preserved c = before_more c.loop-k.invariant c.loop-k-test.true c.if-lengths-k-ne0.false

pub returns : goal.returns
returns c = none_in c.args.lengths c.loop-k.k c.loop-k.invariant c.loop-k-test.false
