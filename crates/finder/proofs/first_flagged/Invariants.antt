-- `first_flagged` meets its contract. The invariant: no process so far is flagged.
use mathlib.Core.Path.{◌≡◌}
use mathlib.Core.Bool.{false}
use Rattle.lists.proofs.Before.{Before}
use Rattle.finder.specs.Steps.{flagged}
use Rattle.finder.proofs.first_flagged.Given as goal

abbrev pub invariant-loop-j : goal.invariant-loop-j
invariant-loop-j l = Before l.n (λ i. flagged l.flags i ≡ false) l.j
