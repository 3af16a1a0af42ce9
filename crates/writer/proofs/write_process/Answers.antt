-- `writer::write_process` meets its contract: the count, then the checkpoints.
use Rattle.writer.proofs.Parts.{count_first}
use Rattle.writer.proofs.Turns.{first_room, second_room, both_put}
use Rattle.writer.proofs.write_process.Goals as goal

pub put_number-next-requires : goal.put_number-next-requires
put_number-next-requires c = first_room c.args.out.now c.args.at (count_first c.requires.rows_fit c.requires.rows_fit_2) c.requires.received_in_bounds

pub write_checkpoints-requires : goal.write_checkpoints-requires
write_checkpoints-requires c = record { rows_fit = c.requires.rows_fit; rows_fit_2 = c.requires.rows_fit_2; received_in_bounds = second_room c.args.out.now c.args.at (count_first c.requires.rows_fit c.requires.rows_fit_2) c.requires.received_in_bounds (c.put_number-next.ensures.next, c.put_number-next.ensures.bytes) }

pub returns : goal.returns
returns c = let both = both_put c.args.out.now c.args.at (count_first c.requires.rows_fit c.requires.rows_fit_2) (c.put_number-next.ensures.next, c.put_number-next.ensures.bytes) (c.write_checkpoints.ensures.value, c.write_checkpoints.ensures.out_after) in record { value = both.0; out_after = both.1 }
