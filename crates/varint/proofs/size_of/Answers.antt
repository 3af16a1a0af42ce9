use native.Mathlib.Omega.{arith}
use Rattle.varint.proofs.WriteTurns.{counted_begun, counted_more, counted_ended, size_most}
use Rattle.varint.proofs.size_of.Goals as goal

pub loop-rest-init : goal.loop-rest-init
loop-rest-init c = counted_begun _

pub overflow_add-n : goal.overflow_add-n
overflow_add-n c = omega (arith, size_most c.args.v c.ranges.v.fits)

pub loop-rest-preserved : goal.loop-rest-preserved
loop-rest-preserved c = counted_more _ _ _ (omega arith) c.loop-rest.invariant

pub returns : goal.returns
returns c = counted_ended _ _ _ (omega arith) c.loop-rest.invariant
