use native.Mathlib.Omega.{arith}
use borrow.Author.Rules.{rules}
use Rattle.writer.proofs.Parts.{checkpoints_begun, checkpoints_more, checkpoints_done}
use Rattle.writer.proofs.Turns.{put_begun, put_room, put_more, put_ended}
use Rattle.writer.proofs.write_checkpoints.Goals as goal

pub loop-r-init : goal.loop-r-init
loop-r-init c = let p = c.requires in
    (omega arith, put_begun (checkpoints_begun p.rows_fit p.rows_fit_2))

pub write_checkpoint-next-requires : goal.write_checkpoint-next-requires
write_checkpoint-next-requires c = let p = c.requires in
    let next = checkpoints_more p.rows_fit p.rows_fit_2 c.loop-r-test.true in
    record { rows_fit = search rules; rows_fit_2 = search rules; received_in_bounds = put_room next p.received_in_bounds c.loop-r.invariant.1 }

pub loop-r-preserved : goal.loop-r-preserved
loop-r-preserved c = let p = c.requires in
    let next = checkpoints_more p.rows_fit p.rows_fit_2 c.loop-r-test.true in
    (omega arith, put_more next (c.write_checkpoint-next.ensures.value, c.write_checkpoint-next.ensures.out_after) c.loop-r.invariant.1)

pub returns : goal.returns
returns c = let both = let p = c.requires in
    put_ended (checkpoints_done p.rows_fit p.rows_fit_2 c.loop-r-test.false) c.loop-r.invariant.1 in record { value = both.0; out_after = both.1 }
