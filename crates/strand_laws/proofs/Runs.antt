-- A part of a list after a run of stores: what was stored, or what was there.
use mathlib.Core.Path.{◌≡◌, refl, ap, ◌∙◌}
use mathlib.Core.List.{List, [], ◌∷◌, ◌++◌, append_assoc}
use mathlib.Core.Logic.{◌⊎◌, inl, inr}
use Prim.Native.Nat.{ℕ, suc, ◌+◌, ◌-◌, ◌≤◌}
use native.Mathlib.Omega.{arith}
use lib.ListN.{length, take, drop, set}
use lib.Seq.{sets, sets-eq, take-set-le, drop-set-lt, drop-set-add, take_at, drop_at, length-take-le}

-- the m elements from a on lie before the m' from a' on, or behind them
abbrev pub Apart : ℕ → ℕ → ℕ → ℕ → Type 0
Apart a m a' m' = (a + m ≤ a') ⊎ (a' + m' ≤ a)

module _ (a m : ℕ) where
  -- one store
  store_before : (l : List ℕ) (i v : ℕ) → a + m ≤ i → take m (drop a (set l i v)) ≡ take m (drop a l)
  store_before l i v h =
      ap (λ (j : ℕ). take m (drop a (set l j v))) (let e : i ≡ a + (i - a) = omega arith in e)
      ∙ ap (take m) (drop-set-add a l (i - a) v)
      ∙ take-set-le m (drop a l) (i - a) v (omega arith)

  before : (vs l : List ℕ) (i : ℕ) → a + m ≤ i → take m (drop a (sets l i vs)) ≡ take m (drop a l)
  before [] l i h = refl
  before (v ∷ vs) l i h = before vs (set l i v) (suc i) (omega arith) ∙ store_before l i v h

  behind : (vs l : List ℕ) (i : ℕ) → i + length vs ≤ a → take m (drop a (sets l i vs)) ≡ take m (drop a l)
  behind [] l i h = refl
  behind (v ∷ vs) l i h =
      behind vs (set l i v) (suc i) (omega arith) ∙ ap (take m) (drop-set-lt a l i v (omega arith))

  -- stores apart from it leave it as it was
  pub sets_apart :
      (vs l : List ℕ) (i : ℕ) → Apart a m i (length vs) → take m (drop a (sets l i vs)) ≡ take m (drop a l)
  sets_apart vs l i (inl h) = before vs l i h
  sets_apart vs l i (inr h) = behind vs l i h

-- what a run of stores wrote is there
pub sets_there : (vs l : List ℕ) (i : ℕ) → i + length vs ≤ length l → take (length vs) (drop i (sets l i vs)) ≡ vs
sets_there vs l i h =
    let rest : List ℕ = drop (i + length vs) l in
    ap (λ (r : List ℕ). take (length vs) (drop i r)) (sets-eq vs l i h ∙ append_assoc (take i l) vs rest)
    ∙ ap (take (length vs)) (drop_at (take i l) (vs ++ rest) i (length-take-le i l (omega arith)))
    ∙ take_at vs rest (length vs) refl
