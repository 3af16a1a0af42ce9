-- `nothing` meets its contract.
use mathlib.Core.Path.{refl}
use Rattle.lists.specs.Over.{tab_from}
use Rattle.matrix.specs.Matrix.{as_matrix}
use Rattle.machine.specs.Sends.{nothing}
use Rattle.machine.proofs.nothing.Goals as goal

pub returns : goal.returns
unfolding nothing as_matrix tab_from
returns c = refl
