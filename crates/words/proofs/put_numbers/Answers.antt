use mathlib.Core.Path.{refl}
use Rattle.words.proofs.Storing.{stored_none, stored_more, stored_all}
use Rattle.words.proofs.put_numbers.Goals as goal

pub loop-i-init : goal.loop-i-init
loop-i-init c = stored_none

pub loop-i-preserved : goal.loop-i-preserved
loop-i-preserved c = stored_more c.loop-i.invariant c.loop-i-test.true _ refl

pub shape_of-words : goal.shape_of-words
shape_of-words c = c.loop-i.invariant.same

pub returns : goal.returns
returns c = stored_all c.loop-i.invariant c.loop-i-test.false
