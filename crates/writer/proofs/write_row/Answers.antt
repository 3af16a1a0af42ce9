use mathlib.Core.Path.{refl}
use native.Mathlib.Omega.{arith}
use Rattle.writer.proofs.Parts.{row_more, row_done}
use Rattle.writer.proofs.Turns.{put_begun, put_room, put_more, put_ended}
use Rattle.writer.proofs.write_row.Goals as goal

pub loop-k-init : goal.loop-k-init
loop-k-init c = (omega arith, put_begun refl)

pub put_number-next-requires : goal.put_number-next-requires
put_number-next-requires c = let p = c.requires in
    put_room (row_more p.rows_fit c.loop-k-test.true c.nth_counter.ensures) p.table_in_bounds c.loop-k.invariant.1

pub loop-k-preserved : goal.loop-k-preserved
loop-k-preserved c = let next = row_more c.requires.rows_fit c.loop-k-test.true c.nth_counter.ensures in
    (omega arith, put_more next (c.put_number-next.ensures.next, c.put_number-next.ensures.bytes) c.loop-k.invariant.1)

pub returns : goal.returns
returns c = let both = put_ended (row_done c.requires.rows_fit c.loop-k-test.false) c.loop-k.invariant.1 in record { value = both.0; out_after = both.1 }
