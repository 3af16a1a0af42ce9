-- `tables::still_rising` meets its contract.
use mathlib.Core.Bool.{false≢true}
use Rattle.tables.proofs.quick.still_rising.Goals as goal

pub returns-then-v-before : goal.returns-then-v-before
returns-then-v-before c e = absurd (false≢true e)
