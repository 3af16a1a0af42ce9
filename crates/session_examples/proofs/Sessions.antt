-- The starred examples of sessions hold, by computation: each runs its session to the end.
-- Assumes nothing.
use mathlib.Core.Path.{◌≡◌, refl}
use mathlib.Core.List.{[], ◌∷◌}
use Rattle.session_examples.specs.Books.{k1, k6}
use Rattle.session_examples.specs.Outcome.{searched_in, ended_on}
use Rattle.session_examples.proofs.Computing.{computing}
use Rattle.session_examples.proofs.Once.{to_end_once, by_once}

pub alone : searched_in (0x01 ∷ 0x03 ∷ []) 1 ≡ ended_on (3 ∷ []) 0 0
unfolding computing to_end_once
alone = by_once (0x01 ∷ 0x03 ∷ []) 1 (3 ∷ []) 0 0 refl

pub two_by_1 : searched_in (0x02 ∷ 0x01 ∷ 0x00 ∷ 0x00 ∷ 0x01 ∷ 0x00 ∷ 0x00 ∷ []) 1 ≡ ended_on (1 ∷ 1 ∷ []) 1 3
unfolding computing to_end_once
two_by_1 = by_once (0x02 ∷ 0x01 ∷ 0x00 ∷ 0x00 ∷ 0x01 ∷ 0x00 ∷ 0x00 ∷ []) 1 (1 ∷ 1 ∷ []) 1 3 refl

pub two_by_2 : searched_in (0x02 ∷ 0x01 ∷ 0x00 ∷ 0x00 ∷ 0x01 ∷ 0x00 ∷ 0x00 ∷ []) 2 ≡ ended_on (1 ∷ 1 ∷ []) 1 3
unfolding computing to_end_once
two_by_2 = by_once (0x02 ∷ 0x01 ∷ 0x00 ∷ 0x00 ∷ 0x01 ∷ 0x00 ∷ 0x00 ∷ []) 2 (1 ∷ 1 ∷ []) 1 3 refl

pub k1_by_1 : searched_in k1 1 ≡ ended_on (1 ∷ 2 ∷ 2 ∷ []) 2 10
unfolding computing to_end_once
k1_by_1 = by_once k1 1 (1 ∷ 2 ∷ 2 ∷ []) 2 10 refl

pub k1_by_2 : searched_in k1 2 ≡ ended_on (1 ∷ 2 ∷ 2 ∷ []) 2 10
unfolding computing to_end_once
k1_by_2 = by_once k1 2 (1 ∷ 2 ∷ 2 ∷ []) 2 10 refl

pub k6_by_2 : searched_in k6 2 ≡ ended_on (2 ∷ 1 ∷ 2 ∷ []) 3 12
unfolding computing to_end_once
k6_by_2 = by_once k6 2 (2 ∷ 1 ∷ 2 ∷ []) 3 12 refl
