-- `no_participant` meets its contract.
use mathlib.Core.Path.{refl}
use Rattle.lists.specs.Over.{tab_from}
use Rattle.matrix.specs.Matrix.{as_row}
use Rattle.participant.specs.Calls.{no_participant}
use Rattle.participant.proofs.no_participant.Goals as goal

pub returns : goal.returns
unfolding no_participant as_row tab_from
returns c = refl
