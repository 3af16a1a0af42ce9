-- `writer::write_checkpoint` meets its contract: one row, then the other.
use borrow.Author.Rules.{rules}
use Rattle.writer.proofs.Parts.{both_rows}
use Rattle.writer.proofs.Turns.{first_room, second_room, both_put}
use Rattle.writer.proofs.write_checkpoint.Goals as goal

pub write_row-middle-requires : goal.write_row-middle-requires
write_row-middle-requires c = record { rows_fit = search rules; table_in_bounds = first_room c.args.out.now c.args.at (both_rows c.requires.rows_fit c.requires.rows_fit_2) c.requires.received_in_bounds }

pub write_row-requires : goal.write_row-requires
write_row-requires c = record { rows_fit = search rules; table_in_bounds = second_room c.args.out.now c.args.at (both_rows c.requires.rows_fit c.requires.rows_fit_2) c.requires.received_in_bounds (c.write_row-middle.ensures.value, c.write_row-middle.ensures.out_after) }

pub returns : goal.returns
returns c = let both = both_put c.args.out.now c.args.at (both_rows c.requires.rows_fit c.requires.rows_fit_2) (c.write_row-middle.ensures.value, c.write_row-middle.ensures.out_after) (c.write_row.ensures.value, c.write_row.ensures.out_after) in record { value = both.0; out_after = both.1 }
