-- `tables::still_known` meets its contract.
use mathlib.Core.Bool.{false≢true}
use Rattle.tables.proofs.quick.still_known.Goals as goal

pub returns-then-v-ge-MARK : goal.returns-then-v-ge-MARK
returns-then-v-ge-MARK c e = absurd (false≢true e)

pub returns : goal.returns
returns c e = (e, c.if-v-ge-MARK.false)
