-- `end_on_oldest` meets its contract.
use mathlib.Core.Path.{refl}
use Rattle.participant.specs.Step.{end_on_oldest}
use Rattle.participant.proofs.Participant.end_on_oldest.Goals as goal

pub returns : goal.returns
unfolding end_on_oldest
returns c = refl
