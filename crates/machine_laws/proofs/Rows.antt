-- What stands in rows and columns: those of a matrix, sent rows, those of which nothing is known, and where there is no pair.
use mathlib.Core.Path.{◌≡◌, refl, ap, ◌∙◌}
use mathlib.Core.Bool.{Bool, true, false, ◌||◌}
use mathlib.Core.List.{List}
use Prim.Native.Nat.{ℕ, ◌<◌}
use borrow.Author.Tests.{eqb-true, eq-eqb}
use lib.Dec.{eqb}
use Rattle.book.specs.declared.Count.{Count}
use Rattle.book.specs.Bounds.{mark}
use Rattle.lists.proofs.Over.{all_in, all_out}
use Rattle.consistency.specs.Known.{counters}
use Rattle.lists.specs.Pick.{pick}
use Rattle.matrix.specs.Matrix.{as_row, entry, row, column, is_pair, not_known_at, not_known_row, not_known_matrix}
use Rattle.matrix.specs.Entries.{same, rest_zero, patch}
use Rattle.matrix.proofs.Rows.{row_is, row_length, counter_of_row, entry_of_matrix}
use Rattle.matrix.proofs.News.{changed_none}
use Rattle.matrix.proofs.Theorems.{same_is_same, patch_at}
use Rattle.machine.specs.Own.{Own, sent_row}
use Rattle.lists.proofs.Tests.{second_of_or, or_unless}

-- rows with the same entries are the same
pub row_ext : (f g : ℕ → ℕ) → ((p : ℕ) → p < 16 → f p ≡ g p) → as_row f ≡ as_row g
row_ext f g h = row_is g (as_row f) (row_length f) (λ p i. counter_of_row f p i ∙ h p i)

pub same_self : (a : List Count) → same a a ≡ true
same_self a = (same_is_same a a).1 (λ p h. refl)

pub row_at : (a : List Count) (j p : ℕ) → p < 16 → counters (row a j) p ≡ entry a j p
row_at a j p i = counter_of_row (λ q. entry a j q) p i

pub column_at : (a : List Count) (k p : ℕ) → k < 16 → counters (column a p) k ≡ entry a k p
column_at a k p i = counter_of_row (λ q. entry a q p) k i

pub sent_at : (own : Own) (r p : ℕ) → p < 16 → counters (sent_row own r) p ≡ own.S r p
sent_at own r p h = counter_of_row (λ q. own.S r q) p h

-- ---- no pair

abbrev zero_or_pair : ℕ → ℕ → List Count → ℕ → Bool
zero_or_pair n j a p = is_pair n j p || eqb (counters a p) 0

module _ (n j : ℕ) (a : List Count) where
  pub rest_in : rest_zero n j a ≡ true → (p : ℕ) → p < 16 → is_pair n j p ≡ false → counters a p ≡ 0
  unfolding rest_zero
  rest_in zeros p h none =
      eqb-true (counters a p) 0 (second_of_or (is_pair n j p) (eqb (counters a p) 0) (all_in 16 (zero_or_pair n j a) zeros p h) none)

  pub rest_out : ((p : ℕ) → p < 16 → is_pair n j p ≡ false → counters a p ≡ 0) → rest_zero n j a ≡ true
  unfolding rest_zero
  rest_out zeros =
      all_out 16 (zero_or_pair n j a)
      (λ p h. or_unless (is_pair n j p) (eqb (counters a p) 0) (λ none. eq-eqb (counters a p) 0 (zeros p h none)))

-- an entry stays zero, where the news says nothing of it
pub zero_patched : (a news : List Count) (p : ℕ) → p < 16 → counters a p ≡ 0 → counters news p ≡ mark → counters (patch a news) p ≡ 0
zero_patched a news p h zero none =
    patch_at a news p h ∙ (changed_none (counters a p) (counters news p) none ∙ zero)

-- ---- nothing known

abbrev not_known_if : Bool → ℕ
not_known_if pair = pick pair mark 0

module _ (n j p : ℕ) (h : p < 16) where
  pub not_known_pair : is_pair n j p ≡ true → counters (not_known_row n j) p ≡ mark
  not_known_pair e = counter_of_row (not_known_at n j) p h ∙ ap not_known_if e

  pub not_known_rest : is_pair n j p ≡ false → counters (not_known_row n j) p ≡ 0
  not_known_rest e = counter_of_row (not_known_at n j) p h ∙ ap not_known_if e

pub not_known_at_lem : (n j p : ℕ) → j < 16 → p < 16 → entry (not_known_matrix n) j p ≡ not_known_at n j p
not_known_at_lem n j p i k = entry_of_matrix (λ j p. not_known_at n j p) j p i k
