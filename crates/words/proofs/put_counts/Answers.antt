use Rattle.words.proofs.Storing.{stored_none, stored_more, stored_all}
use Rattle.words.proofs.put_counts.Goals as goal

pub loop-i-init : goal.loop-i-init
loop-i-init g c = stored_none

pub loop-i-preserved : goal.loop-i-preserved
loop-i-preserved g c = stored_more c.loop-i.invariant c.loop-i-test.true _ c.from.ensures

pub shape_of-words : goal.shape_of-words
shape_of-words g c = c.loop-i.invariant.same

pub returns : goal.returns
returns g c = stored_all c.loop-i.invariant c.loop-i-test.false
