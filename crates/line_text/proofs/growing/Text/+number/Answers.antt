use native.Mathlib.Omega.{arith}
use Rattle.line_text.proofs.Decimal.{decimal_last, decimal_more, decimal_one, decimal_size}
use Rattle.line_text.proofs.Grows.{grown_more}
use Rattle.line_text.proofs.growing.Text.+number.Goals as goal

pub push-requires : goal.push-requires
push-requires t c = omega (arith, decimal_one c.args.v (omega arith))

pub returns-then-v-lt10 : goal.returns-then-v-lt10
returns-then-v-lt10 t c = rw (decimal_last c.args.v (omega arith)) c.push.ensures

pub number-requires : goal.number-requires
number-requires t c =
    let e = decimal_size c.args.v c.ranges.v.fits (omega arith) in
    (omega arith, omega arith)

pub push-requires-2 : goal.push-requires-2
push-requires-2 t c = omega (arith, decimal_size c.args.v c.ranges.v.fits (omega arith), c.number.ensures.long)

pub returns : goal.returns
returns t c = rw (decimal_more c.args.v c.ranges.v.fits (omega arith)) (grown_more c.number.ensures c.push-2.ensures)
