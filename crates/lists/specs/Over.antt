-- Functions of the numbers below a bound: true of all of them, added up, as a list; and the last number at which one is
-- true, the lowest, and the lowest pair.
use Rattle.std.specs.Prelude.{Bool, true, false, ◌&&◌, List, [], ◌∷◌, ℕ, zero, suc, ◌+◌}
use Rattle.std.proofs.Math.Option.{Option, none, some, or_else, bind, map}
use Rattle.lists.specs.Pick.{pick}

unfoldable pub all_to : ℕ → (ℕ → Bool) → Bool
all_to zero f = true
all_to (suc k) f = all_to k f && f k

unfoldable pub sum_to : ℕ → (ℕ → ℕ) → ℕ
sum_to zero f = 0
sum_to (suc k) f = sum_to k f + f k

-- the values at k numbers from `i` on
unfoldable pub tab_from : {A : Type 0} → ℕ → ℕ → (ℕ → A) → List A
tab_from i zero f = []
tab_from i (suc k) f = f i ∷ tab_from (suc i) k f

abbrev pub tab : {A : Type 0} → ℕ → (ℕ → A) → List A
tab k f = tab_from 0 k f

-- the last number from 1 to k at which f is true, 0 for none
unfoldable pub last_to : (ℕ → Bool) → ℕ → ℕ
last_to f zero = 0
last_to f (suc k) = elim (f (suc k)) [ true ↦ suc k | false ↦ last_to f k ]

-- ---- the lowest

-- the lowest number below k at which f is true, none where there is none
unfoldable pub lowest : ℕ → (ℕ → Bool) → Option ℕ
lowest zero f = none
lowest (suc k) f = or_else (lowest k f) (pick (f k) (some k) none)

abbrev pub is_found : Option ℕ → Bool
is_found none = false
is_found (some i) = true

-- the lowest j, and for it the lowest p, both below k, at which f is true; none where there is none
unfoldable pub lowest_pair : ℕ → (ℕ → ℕ → Bool) → Option (ℕ × ℕ)
lowest_pair k f = bind (lowest k (λ j. is_found (lowest k (f j)))) (λ j. map (λ p. (j, p)) (lowest k (f j)))

-- a number found, counted from 1; 0 for none
abbrev pub numbered : Option ℕ → ℕ
numbered none = 0
numbered (some i) = suc i
