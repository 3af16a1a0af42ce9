use mathlib.Core.Path.{refl}
use native.Mathlib.Omega.{arith}
use Rattle.lists.proofs.Filling.{filled_none, filled_more, filled_all}
use Rattle.finder.specs.Line.{checkpoints}
use Rattle.finder.proofs.newest_set.Goals as goal

pub loop-j-init : goal.loop-j-init
loop-j-init c = filled_none (omega arith)

pub loop-j-preserved : goal.loop-j-preserved
loop-j-preserved c = filled_more c.loop-j.invariant (omega arith) refl

pub returns : goal.returns
unfolding checkpoints
returns c = filled_all c.loop-j.invariant refl (omega arith)
