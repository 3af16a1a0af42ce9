use native.Mathlib.Omega.{arith}
use Rattle.moves.proofs.ProcessTurns.{process_begun, process_length, process_more, process_ended}
use Rattle.moves.proofs.move_process.Goals as goal

pub loop-k-init : goal.loop-k-init
loop-k-init c = process_begun _ _ _ _ _

pub move_row-requires : goal.move_row-requires
move_row-requires c = (omega arith, omega (arith, process_length _ _ _ _ _ _ _ c.loop-k.invariant))

pub loop-k-preserved : goal.loop-k-preserved
loop-k-preserved c = process_more _ _ _ _ _ _ _ c.loop-k.invariant (omega arith) _ c.loop-k-test.true c.move_row.ensures

pub shape_of-table : goal.shape_of-table
shape_of-table c = process_length _ _ _ _ _ _ _ c.loop-k.invariant

pub returns : goal.returns
returns c = process_ended _ _ _ _ _ _ _ c.loop-k.invariant c.loop-k-test.false
