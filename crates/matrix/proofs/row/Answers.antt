-- `row` meets its contract.
use borrow.Author.Rules.{rules}
use Prim.Native.Nat.{◌+◌, ◌-◌, ◌*◌}
use Rattle.consistency.specs.Known.{counters}
use Rattle.book.proofs.Values.{tally}
use Rattle.matrix.specs.Matrix.{as_row}
use Rattle.matrix.proofs.Made.{made_is}
use Rattle.matrix.proofs.row.Goals as goal

pub returns : goal.returns
unfolding as_row
returns c = let a = c.args in
    made_is _ (λ k. tally (counters a.matrix ((a.j.0 - 1) * 16 + k))) (tally 0) _ (λ i y q k. search rules) _ 16 c.from_fn.ensures.items
