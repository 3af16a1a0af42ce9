-- `all_named` meets its contract. The invariant: the places so far are named or empty.
use mathlib.Core.Path.{◌≡◌}
use mathlib.Core.Bool.{true}
use Rattle.lists.proofs.Before.{Before}
use Rattle.session_check.proofs.Naming.{named_at}
use Rattle.session_check.proofs.all_named.Given as goal

abbrev pub invariant-loop-k : goal.invariant-loop-k
invariant-loop-k l = Before 16 (λ j. named_at l.n l.participants j ≡ true) l.k
