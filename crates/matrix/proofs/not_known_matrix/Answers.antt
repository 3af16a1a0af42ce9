-- `not_known_matrix` meets its contract.
use borrow.Author.Rules.{rules}
use Prim.Native.Nat.{◌/◌, ◌%◌}
use Rattle.matrix.specs.Matrix.{not_known_at}
use Rattle.book.proofs.Values.{tally}
use Rattle.matrix.specs.Matrix.{as_matrix}
use Rattle.matrix.proofs.Made.{made_is}
use Rattle.matrix.proofs.not_known_matrix.Goals as goal

pub returns : goal.returns
unfolding as_matrix
returns c = let a = c.args in
    made_is _ (λ k. tally (not_known_at a.n (k / 16) (k % 16))) (tally 0) _ (λ i y q k. search rules) _ 256 c.from_fn.ensures.items
