-- `wait` meets its contract.
use mathlib.Core.Path.{refl}
use Rattle.initiator.specs.Begin.{wait}
use Rattle.initiator.proofs.Initiator.wait.Goals as goal

pub returns : goal.returns
unfolding wait
returns c = refl
