-- `all_not_known` meets its contract. The invariant: in the rows so far nothing is known.
use mathlib.Core.Path.{◌≡◌}
use mathlib.Core.Bool.{true}
use Rattle.matrix.specs.Matrix.{row, not_known_row}
use Rattle.matrix.specs.Entries.{same}
use Rattle.lists.proofs.Before.{Before}
use Rattle.matrix.proofs.whole.all_not_known.Given as goal

abbrev pub invariant-loop-j : goal.invariant-loop-j
invariant-loop-j l = Before 16 (λ k. same (row l.matrix k) (not_known_row l.n k) ≡ true) l.j
