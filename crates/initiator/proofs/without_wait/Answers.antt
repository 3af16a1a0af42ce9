-- `without_wait` meets its contract.
use mathlib.Core.Path.{refl}
use Rattle.lists.specs.Over.{tab_from}
use Rattle.initiator.specs.Begin.{without_wait}
use Rattle.initiator.proofs.without_wait.Goals as goal

pub returns : goal.returns
unfolding without_wait tab_from
returns c = refl
