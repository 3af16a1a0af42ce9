-- `move_table` meets its contract: the rows that are kept, and zeros after them.
use Rattle.book.proofs.Stores.{whole_table}
use Rattle.moves.specs.Parts.{rows_moved}
use Rattle.moves.proofs.move_table.Goals as goal

pub returns : goal.returns
returns c = let a = c.args in
    let did = c.move_rows-to.ensures in
    whole_table a.table.now _ _ (rows_moved a.rows a.table.now a.line a.kept a.off) _ c.requires.1 did.upper_bound.0 did.upper_bound.1 did.table_after c.clear.ensures
