use mathlib.Core.Path.{refl}
use native.Mathlib.Omega.{arith}
use Rattle.lists.proofs.Filling.{filled_none, filled_more, filled_all}
use Rattle.words.proofs.numbers_at.Goals as goal

pub loop-i-init : goal.loop-i-init
loop-i-init c = filled_none (omega arith)

pub loop-i-preserved : goal.loop-i-preserved
loop-i-preserved c = filled_more c.loop-i.invariant c.loop-i-test.true refl

pub returns : goal.returns
returns c = filled_all c.loop-i.invariant refl c.loop-i-test.false
