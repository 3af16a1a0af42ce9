use native.Mathlib.Omega.{arith}
use mathlib.Core.Path.{refl}
use Rattle.lists.proofs.Filling.{filled_none, filled_more}
use Rattle.plans.proofs.Filled.{filled_checkpoints}
use Rattle.plans.proofs.oldest_set.Goals as goal

pub loop-j-init : goal.loop-j-init
loop-j-init c = filled_none (omega arith)

pub loop-j-preserved : goal.loop-j-preserved
loop-j-preserved c = filled_more c.loop-j.invariant c.loop-j-test.true refl

pub returns : goal.returns
returns c = filled_checkpoints (λ _. 1) c.loop-j.invariant c.loop-j-test.false
