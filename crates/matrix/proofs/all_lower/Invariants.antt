-- `all_lower` meets its contract. The invariant: every counter so far is lower.
use mathlib.Core.Path.{◌≡◌}
use mathlib.Core.Bool.{true}
use Rattle.consistency.specs.Known.{counters}
use Rattle.lists.proofs.Before.{Before}
use Rattle.matrix.proofs.News.{lower}
use Rattle.matrix.proofs.all_lower.Given as goal

abbrev pub invariant-loop-p : goal.invariant-loop-p
invariant-loop-p l = Before 16 (λ k. lower (counters l.news k) (counters l.held k) ≡ true) l.p
