-- The starred examples hold, by computation.
-- Assumes nothing.
use mathlib.Core.Path.{refl}
use mathlib.Core.List.{[], ◌∷◌}
use Rattle.shown.specs.Shown as shown
use Rattle.restart.specs.Plan as plan
use Rattle.restart.specs.Calls as calls
use Rattle.session_examples.specs.Books.{k6}
use Rattle.session_examples.proofs.Computing.{computing}
use Rattle.examples.specs.Starred.{Starred, MovedTo, Holds, ◌also◌, none}
use Rattle.session_examples.proofs.Sessions.{alone, two_by_1, two_by_2, k1_by_1, k1_by_2, k6_by_2}

k6_moved : Holds (MovedTo k6 1 (3 ∷ 4 ∷ 1 ∷ []))
unfolding computing shown.book_shown plan.planned plan.applied calls.move_question calls.book_moved calls.shape_moved
k6_moved = refl

pub starred_hold : Starred
unfolding computing
starred_hold =
    refl
    also refl
    also refl
    also alone
    also refl
    also refl
    also two_by_1
    also two_by_2
    also refl
    also refl
    also refl
    also refl
    also refl
    also refl
    also refl
    also k1_by_1
    also k1_by_2
    also refl
    also refl
    also k6_by_2
    also k6_moved
    also refl
    also refl
    also refl
    also refl
    also refl
    also refl
    also refl
    also refl
    also refl
    also refl
    also none
