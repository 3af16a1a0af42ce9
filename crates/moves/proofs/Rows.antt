-- Rows of sixteen, one after another: how long they are, and that rows with the same entries are the same.
use mathlib.Core.Path.{◌≡◌, refl, ap, ap₂, ◌∙◌}
use mathlib.Core.List.{List, ◌++◌}
use Prim.Native.Nat.{ℕ, zero, suc, ◌+◌, ◌*◌, ◌≤◌, ◌<◌}
use native.Mathlib.Omega.{arith}
use lib.ListN.{length, length-append}
use Rattle.lists.specs.Over.{tab}
use Rattle.lists.proofs.Over.{length_tab, tab_same}
use Rattle.shown.specs.Rows.{rows_to, all_rows_to}

-- ---- the rows of one process

pub length_rows : (row : ℕ → ℕ → ℕ) (k : ℕ) → length (rows_to row k) ≡ k * 16
unfolding rows_to
length_rows row zero = refl
length_rows row (suc k) =
    length-append (rows_to row k) (tab 16 (row (suc k)))
    ∙ ap₂ (λ (a b : ℕ). a + b) (length_rows row k) (length_tab 16 (row (suc k)))
    ∙ omega arith

pub rows_same : (k : ℕ) (row row' : ℕ → ℕ → ℕ) → ((r p : ℕ) → 1 ≤ r → r ≤ k → p < 16 → row r p ≡ row' r p) → rows_to row k ≡ rows_to row' k
unfolding rows_to
rows_same zero row row' same = refl
rows_same (suc k) row row' same =
    ap₂ (λ (a b : List ℕ). a ++ b) (rows_same k row row' (λ r p h m l. same r p h (omega arith) l))
    (tab_same 16 16 (row (suc k)) (row' (suc k)) refl (λ p l. same (suc k) p (omega arith) (omega arith) l))

-- ---- the rows of all processes

pub all_rows_same : (n : ℕ) (count count' : ℕ → ℕ) (row row' : ℕ → ℕ → ℕ → ℕ) → ((j : ℕ) → j < n → count j ≡ count' j)
    → ((j r p : ℕ) → j < n → 1 ≤ r → r ≤ count j → p < 16 → row j r p ≡ row' j r p) → all_rows_to count row n ≡ all_rows_to count' row' n
unfolding all_rows_to
all_rows_same zero count count' row row' counts same = refl
all_rows_same (suc n) count count' row row' counts same =
    ap₂ (λ (a b : List ℕ). a ++ b)
    (all_rows_same n count count' row row' (λ j h. counts j (omega arith)) (λ j r p h. same j r p (omega arith)))
    (rows_same (count n) (row n) (row' n) (λ r p. same n r p (omega arith)) ∙ ap (rows_to (row' n)) (counts n (omega arith)))
