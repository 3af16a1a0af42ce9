-- `no_message` meets its contract.
use mathlib.Core.Path.{refl}
use Rattle.lists.specs.Over.{tab_from}
use Rattle.matrix.specs.Matrix.{as_row}
use Rattle.message.specs.Read.{no_message}
use Rattle.session_steps.proofs.no_message.Goals as goal

pub returns : goal.returns
unfolding no_message as_row tab_from
returns c = refl
