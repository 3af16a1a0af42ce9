-- `for_each` meets its contract.
use borrow.Author.Rules.{rules}
use Prim.Native.Nat.{◌%◌}
use Rattle.book.proofs.Values.{tally}
use Rattle.consistency.specs.Known.{counters}
use Rattle.matrix.specs.Matrix.{as_matrix}
use Rattle.matrix.proofs.Made.{made_is}
use Rattle.machine.proofs.for_each.Goals as goal

pub returns : goal.returns
unfolding as_matrix
returns c = let a = c.args in
    made_is _ (λ k. tally (counters a.news (k % 16))) (tally 0) _ (λ i y q k. search rules) _ 256 c.from_fn.ensures.items
