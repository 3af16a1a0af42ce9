-- `all_purposes` meets its contract. The invariant: at the places so far, the purposes are purposes, or the place is empty.
use mathlib.Core.Path.{◌≡◌}
use mathlib.Core.Bool.{true}
use Rattle.lists.proofs.Before.{Before}
use Rattle.session_check.proofs.Naming.{purpose_at}
use Rattle.session_check.proofs.all_purposes.Given as goal

abbrev pub invariant-loop-k : goal.invariant-loop-k
invariant-loop-k l = Before 16 (λ j. purpose_at l.participants j ≡ true) l.k
