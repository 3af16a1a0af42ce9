-- `polls` meets its contract.
use borrow.Author.Rules.{rules}
use Prim.Native.Nat.{◌/◌, ◌%◌}
use Rattle.matrix.specs.Matrix.{entry}
use Rattle.matrix.specs.Entries.{differing}
use Rattle.book.proofs.Values.{tally}
use Rattle.matrix.specs.Matrix.{as_matrix}
use Rattle.matrix.proofs.Made.{made_is}
use Rattle.matrix.proofs.whole.polls.Goals as goal

pub returns : goal.returns
unfolding as_matrix
returns c = let a = c.args in
    made_is _ (λ k. tally (differing (entry a.matrix (k % 16) (k / 16)) (entry a.copy (k % 16) (k / 16)))) (tally 0) _ (λ i y q k. search rules) _ 256 c.from_fn.ensures.items
