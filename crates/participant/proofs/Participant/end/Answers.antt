-- `end` meets its contract.
use mathlib.Core.Path.{refl}
use Rattle.participant.specs.Step.{end}
use Rattle.participant.proofs.Participant.end.Goals as goal

pub returns : goal.returns
unfolding end
returns c = refl
