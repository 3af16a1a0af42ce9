use mathlib.Core.Path.{refl}
use native.Mathlib.Omega.{arith}
use Rattle.finder.specs.Line.{checkpoints}
use Rattle.words.specs.Plain.{set_in}
use Rattle.lists.proofs.Filling.{filled_none, filled_more, filled_all}
use Rattle.words.proofs.set_in.Goals as goal

pub loop-i-init : goal.loop-i-init
loop-i-init c = filled_none (omega arith)

pub loop-i-preserved : goal.loop-i-preserved
loop-i-preserved c = filled_more c.loop-i.invariant c.loop-i-test.true refl

pub returns : goal.returns
unfolding set_in checkpoints
returns c = filled_all c.loop-i.invariant refl c.loop-i-test.false
