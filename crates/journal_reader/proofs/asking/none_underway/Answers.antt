-- `none_underway` meets its contract.
use mathlib.Core.Path.{refl}
use Rattle.journal_reader.specs.Asking.{none_underway}
use Rattle.journal_reader.proofs.asking.none_underway.Goals as goal

pub returns : goal.returns
unfolding none_underway
returns c = refl
