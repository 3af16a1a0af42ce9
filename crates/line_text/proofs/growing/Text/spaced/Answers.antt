-- `Text::spaced` meets its contract.
-- Assumes nothing.
use native.Mathlib.Omega.{arith}
use Rattle.line_text.specs.Text.{spaced}
use Rattle.line_text.proofs.Decimal.{decimal_most}
use Rattle.line_text.proofs.Grows.{grown_more}
use Rattle.line_text.proofs.growing.Text.spaced.Goals as goal

pub number-requires : goal.number-requires
number-requires c = omega (arith, decimal_most c.args.v, c.push.ensures.long)

pub returns : goal.returns
unfolding spaced
returns c = grown_more c.push.ensures c.number.ensures
