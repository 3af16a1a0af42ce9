use native.Mathlib.Omega.{arith}
use lib.ListN.{length-set}
use Rattle.varint.proofs.WriteTurns.{put_begun, put_more, put_ended, group_byte}
use Rattle.varint.proofs.put_number.Goals as goal

pub loop-left-init : goal.loop-left-init
loop-left-init c = put_begun _ _ _ c.requires

pub loop-left-preserved : goal.loop-left-preserved
loop-left-preserved c = put_more _ _ _ _ _ _ c.requires c.loop-left-test.true c.loop-left.invariant

pub overflow_cast-out : goal.overflow_cast-out
overflow_cast-out c = omega (arith, group_byte c.loop-left.left 128 (omega arith))

pub shape_of-out : goal.shape_of-out
shape_of-out c = simp length-set c.loop-left.invariant.same

pub returns : goal.returns
returns c = let both = put_ended _ _ _ _ _ _ (omega arith) c.loop-left.invariant in record { next = both.0; bytes = both.1 }
