use native.Mathlib.Omega.{arith}
use Rattle.writer.proofs.Parts.{checkpoints_begun, checkpoints_more, checkpoints_done}
use Rattle.writer.proofs.Turns.{counted_begun, counted_more, counted_ended}
use Rattle.writer.proofs.checkpoints_size.Goals as goal

pub loop-r-init : goal.loop-r-init
loop-r-init c = let p = c.requires in
    (omega arith, omega arith, counted_begun (checkpoints_begun p.rows_fit p.rows_fit_2))

pub loop-r-preserved : goal.loop-r-preserved
loop-r-preserved c = let p = c.requires in
    let next = checkpoints_more p.rows_fit p.rows_fit_2 c.loop-r-test.true in
    (omega arith, omega arith, counted_more next c.checkpoint_size-size.ensures.value c.loop-r.invariant.2)

pub returns : goal.returns
returns c = let p = c.requires in
    let done = checkpoints_done p.rows_fit p.rows_fit_2 c.loop-r-test.false in
    record { value = counted_ended done c.loop-r.invariant.2; upper_bound = omega arith }
