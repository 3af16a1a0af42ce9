-- `reader::empty_table` meets its contract.
use mathlib.Core.Path.{refl}
use Rattle.reader.specs.Parts.{empty_table}
use Rattle.reader.proofs.empty_table.Goals as goal

pub returns : goal.returns
unfolding empty_table
returns c = refl
