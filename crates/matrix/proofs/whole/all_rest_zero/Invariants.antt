-- `all_rest_zero` meets its contract. The invariant: the rows so far are zero where they must be.
use mathlib.Core.Path.{◌≡◌}
use mathlib.Core.Bool.{true}
use Rattle.matrix.specs.Matrix.{row}
use Rattle.matrix.specs.Entries.{rest_zero}
use Rattle.lists.proofs.Before.{Before}
use Rattle.matrix.proofs.whole.all_rest_zero.Given as goal

abbrev pub invariant-loop-j : goal.invariant-loop-j
invariant-loop-j l = Before 16 (λ k. rest_zero l.n k (row l.matrix k) ≡ true) l.j
