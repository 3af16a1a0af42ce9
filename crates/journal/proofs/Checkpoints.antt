-- The events up to a process's k-th checkpoint event.
use mathlib.Core.Path.{◌≡◌, refl, sym, ap, ◌∙◌}
use mathlib.Core.Bool.{Bool, true, false}
use mathlib.Core.List.{List, [], ◌∷◌, ◌++◌}
use Prim.Native.Nat.{ℕ, zero, suc, ◌+◌, ◌-◌, ◌≤◌, ◌<◌}
use native.Mathlib.Omega.{arith}
use borrow.Author.Tests.{ne_eqb}
use Rattle.lists.specs.Pick.{pick}
use Rattle.journal.specs.declared.Event.{Event}
use Rattle.journal.specs.Counting.{how_many, is_checkpoint, checkpoint_events}
use Rattle.journal.specs.Built.{up_to_checkpoint}

-- how far an event takes the count of what is left
abbrev left : ℕ → ℕ → Event → ℕ
left j k e = k - pick (is_checkpoint j e) 1 0

-- none up to a 0-th
pub up_to_none : (j : ℕ) (es : List Event) → up_to_checkpoint j 0 es ≡ []
unfolding up_to_checkpoint
up_to_none j [] = refl
up_to_none j (e ∷ es) = refl

up_to_more : (j k : ℕ) (e : Event) (es : List Event) → up_to_checkpoint j (suc k) (e ∷ es) ≡ e ∷ up_to_checkpoint j (left j (suc k) e) es
unfolding up_to_checkpoint
up_to_more j k e es = rw (ne_eqb (suc k) 0 (λ z. absurd (omega (arith, z))))

-- all, where there are fewer
pub up_to_all : (j k : ℕ) (es : List Event) → checkpoint_events j es < k → up_to_checkpoint j k es ≡ es
unfolding up_to_checkpoint how_many
up_to_all j k [] h = refl
up_to_all j zero (e ∷ es) h = absurd (omega arith)
up_to_all j (suc k) (e ∷ es) h =
    up_to_more j k e es ∙ ap (λ (l : List Event). e ∷ l) (up_to_all j (left j (suc k) e) es (step (is_checkpoint j e) h))
  where
    step : (t : Bool) → pick t 1 0 + how_many (is_checkpoint j) es < suc k → how_many (is_checkpoint j) es < suc k - pick t 1 0
    step true m = omega arith
    step false m = omega arith

-- later events change nothing
pub up_to_stays : (j k : ℕ) (es more : List Event) → k ≤ checkpoint_events j es → up_to_checkpoint j k (es ++ more) ≡ up_to_checkpoint j k es
unfolding up_to_checkpoint how_many
up_to_stays j k [] more h = rw (zero_of k h) (up_to_none j more)
  where
    zero_of : (k : ℕ) → k ≤ 0 → k ≡ 0
    zero_of k m = omega arith
up_to_stays j zero (e ∷ es) more h = refl
up_to_stays j (suc k) (e ∷ es) more h =
    up_to_more j k e (es ++ more)
    ∙ ap (λ (l : List Event). e ∷ l) (up_to_stays j (left j (suc k) e) es more (step (is_checkpoint j e) h))
    ∙ sym (up_to_more j k e es)
  where
    step : (t : Bool) → suc k ≤ pick t 1 0 + how_many (is_checkpoint j) es → suc k - pick t 1 0 ≤ how_many (is_checkpoint j) es
    step true m = omega arith
    step false m = omega arith

-- what is counted up to one checkpoint is counted up to the next
pub up_to_rises : (such : Event → Bool) (j k : ℕ) (es : List Event)
    → how_many such (up_to_checkpoint j k es) ≤ how_many such (up_to_checkpoint j (suc k) es)
unfolding up_to_checkpoint how_many
up_to_rises such j k [] = omega arith
up_to_rises such j zero (e ∷ es) = omega arith
up_to_rises such j (suc k) (e ∷ es) =
    rw (up_to_more j k e es, up_to_more j (suc k) e es) (step (is_checkpoint j e) (λ i. up_to_rises such j i es))
  where
    step : (t : Bool) → ((i : ℕ) → how_many such (up_to_checkpoint j i es) ≤ how_many such (up_to_checkpoint j (suc i) es))
        → pick (such e) 1 0 + how_many such (up_to_checkpoint j (suc k - pick t 1 0) es)
        ≤ pick (such e) 1 0 + how_many such (up_to_checkpoint j (suc (suc k) - pick t 1 0) es)
    step true m =
        let a : suc k - 1 ≡ k = omega arith in
        let b : suc (suc k) - 1 ≡ suc k = omega arith in
        rw (a, b) (omega (arith, m k))
    step false m =
        let a : suc k - 0 ≡ suc k = omega arith in
        let b : suc (suc k) - 0 ≡ suc (suc k) = omega arith in
        rw (a, b) (omega (arith, m (suc k)))

-- and no more than over all events
pub up_to_few : (such : Event → Bool) (j k : ℕ) (es : List Event) → how_many such (up_to_checkpoint j k es) ≤ how_many such es
unfolding up_to_checkpoint how_many
up_to_few such j k [] = omega arith
up_to_few such j zero (e ∷ es) = omega arith
up_to_few such j (suc k) (e ∷ es) = rw (up_to_more j k e es) (omega (arith, up_to_few such j (left j (suc k) e) es))
