use mathlib.Core.Path.{refl}
use native.Mathlib.Omega.{arith}
use Rattle.lists.proofs.Filling.{filled_none, filled_more, filled_all}
use Rattle.session_steps.proofs.first_places.Goals as goal

pub loop-k-init : goal.loop-k-init
loop-k-init c = filled_none (omega arith)

pub loop-k-preserved : goal.loop-k-preserved
loop-k-preserved c = filled_more c.loop-k.invariant c.loop-k-test.true c.first_place.ensures

pub returns : goal.returns
returns c = filled_all c.loop-k.invariant refl c.loop-k-test.false
