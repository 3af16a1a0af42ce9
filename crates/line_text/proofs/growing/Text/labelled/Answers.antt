-- `Text::labelled` meets its contract.
-- Assumes nothing.
use native.Mathlib.Omega.{arith}
use Rattle.line_text.specs.Text.{labelled}
use Rattle.line_text.proofs.Decimal.{spaced_most}
use Rattle.line_text.proofs.Grows.{grown_more}
use Rattle.line_text.proofs.growing.Text.labelled.Goals as goal

pub push-requires : goal.push-requires
push-requires c = omega (arith, spaced_most c.args.v, c.word.ensures.long, c.spaced.ensures.long)

pub returns : goal.returns
unfolding labelled
returns c = grown_more (grown_more c.word.ensures c.spaced.ensures) c.push.ensures
