-- Tests of a whole matrix and of flags, entry by entry, and a matrix with another row.
use mathlib.Core.Path.{◌≡◌, refl, sym, ap, subst, ◌∙◌}
use mathlib.Core.Bool.{Bool, true, false, not, ◌||◌}
use mathlib.Core.List.{List}
use Prim.Native.Nat.{ℕ, ◌≤◌, ◌<◌}
use native.Mathlib.Decide.{ℕ_discrete}
use borrow.Author.Tests.{leb-true, le-leb, eq-eqb, ne_eqb}
use lib.Dec.{leb}
use Rattle.book.specs.declared.Count.{Count}
use Rattle.lists.proofs.Over.{all_in, all_out}
use Rattle.consistency.specs.Known.{counters}
use Rattle.lists.specs.Pick.{pick}
use Rattle.matrix.specs.Matrix.{entry, row, column, with_row, is_pair, not_known_at, not_known_row}
use Rattle.matrix.specs.Entries.{same, rest_zero, none_above}
use Rattle.matrix.specs.Whole.{all_rest_zero, all_not_known, all_none_above}
use Rattle.matrix.proofs.Rows.{counter_of_row}
use Rattle.matrix.proofs.Theorems.{entry_with_row, same_is_same}
use Rattle.machine.specs.Named.{is_participant}
use Rattle.machine.specs.Flags.{flag, only_participants}
use Rattle.machine_laws.proofs.Rows.{row_ext, row_at, rest_in, rest_out}
use Rattle.lists.proofs.Tests.{second_of_or}

-- ---- tests of a matrix

-- diagonal and absent entries are zero
abbrev pub Zeros : ℕ → List Count → Type 0
Zeros n a = (j p : ℕ) → j < 16 → p < 16 → is_pair n j p ≡ false → entry a j p ≡ 0

pub zeros_in : (n : ℕ) (a : List Count) → all_rest_zero n a ≡ true → Zeros n a
unfolding all_rest_zero
zeros_in n a h j p i k none =
    sym (row_at a j p k) ∙ rest_in n j (row a j) (all_in 16 (λ j. rest_zero n j (row a j)) h j i) p k none

pub zeros_out : (n : ℕ) (a : List Count) → Zeros n a → all_rest_zero n a ≡ true
unfolding all_rest_zero
zeros_out n a zeros =
    all_out 16 (λ j. rest_zero n j (row a j)) (λ j i. rest_out n j (row a j) (λ p k none. row_at a j p k ∙ zeros j p i k none))

-- no entry is above the other's
abbrev pub Below : List Count → List Count → Type 0
Below a b = (j p : ℕ) → j < 16 → p < 16 → entry a j p ≤ entry b j p

abbrev low_here : List Count → List Count → ℕ → ℕ → Bool
low_here a b j p = leb (counters (row a j) p) (counters (row b j) p)

pub below_in : (a b : List Count) → all_none_above a b ≡ true → Below a b
unfolding all_none_above none_above
below_in a b h j p i k =
    let one : low_here a b j p ≡ true = all_in 16 (low_here a b j) (all_in 16 (λ j. none_above (row a j) (row b j)) h j i) p k in
    let low : counters (row a j) p ≤ counters (row b j) p = leb-true (counters (row a j) p) (counters (row b j) p) one in
    rw (row_at a j p k, row_at b j p k) at low

pub below_out : (a b : List Count) → Below a b → all_none_above a b ≡ true
unfolding all_none_above none_above
below_out a b below =
    all_out 16 (λ j. none_above (row a j) (row b j)) (λ j i.
    all_out 16 (low_here a b j) (λ p k.
    le-leb (counters (row a j) p) (counters (row b j) p) (rw (row_at a j p k, row_at b j p k) (below j p i k))))

-- all "not known"
pub not_known_out : (n : ℕ) (a : List Count) → ((j p : ℕ) → j < 16 → p < 16 → entry a j p ≡ not_known_at n j p) → all_not_known n a ≡ true
unfolding all_not_known
not_known_out n a h =
    all_out 16 (λ j. same (row a j) (not_known_row n j)) (λ j i.
    (same_is_same (row a j) (not_known_row n j)).1 (λ p k.
    row_at a j p k ∙ (h j p i k ∙ sym (counter_of_row (λ q. not_known_at n j q) p k))))

-- ---- flags

abbrev pub Only : ℕ → ℕ → List Bool → Type 0
Only n me flags = (p : ℕ) → p < 16 → flag flags p ≡ true → is_participant n me p ≡ true

abbrev only_here : ℕ → ℕ → List Bool → ℕ → Bool
only_here n me flags p = not (flag flags p) || is_participant n me p

pub only_in : (n me : ℕ) (flags : List Bool) → only_participants n me flags ≡ true → Only n me flags
unfolding only_participants
only_in n me flags h p i e =
    second_of_or (not (flag flags p)) (is_participant n me p) (all_in 16 (only_here n me flags) h p i) (ap not e)

pub only_out : (n me : ℕ) (flags : List Bool) → Only n me flags → only_participants n me flags ≡ true
unfolding only_participants
only_out n me flags only =
    all_out 16 (only_here n me flags) (λ p i. go p i (flag flags p) refl)
  where
    go : (p : ℕ) → p < 16 → (v : Bool) → flag flags p ≡ v → only_here n me flags p ≡ true
    go p i true e = rw (e, only p i e)
    go p i false e = rw e

-- ---- with another row of process j

-- what holds of the new row's entries and of the old ones elsewhere holds of all
pub with_row_each : (Q : ℕ → ℕ → ℕ → Type 0) (a entries : List Count) (j : ℕ) → ((p : ℕ) → p < 16 → Q j p (counters entries p))
    → ((i p : ℕ) → i < 16 → p < 16 → (i ≡ j → ⊥) → Q i p (entry a i p))
    → (i p : ℕ) → i < 16 → p < 16 → Q i p (entry (with_row a j entries) i p)
with_row_each Q a entries j here elsewhere i p k l =
    subst (Q i p) (sym (entry_with_row a entries j i p k l))
    (elim (ℕ_discrete i j) [
      | yes e ↦
          subst (λ (t : Bool). Q i p (pick t (counters entries p) (entry a i p))) (sym (eq-eqb i j e))
          (subst (λ (s : ℕ). Q s p (counters entries p)) (sym e) (here p l))
      | no ne ↦
          subst (λ (t : Bool). Q i p (pick t (counters entries p) (entry a i p))) (sym (ne_eqb i j ne)) (elsewhere i p k l ne)
    ])

-- the column of j stays, where the new row has the old entry of j itself
pub own_column : (a entries : List Count) (j : ℕ) → j < 16 → counters entries j ≡ entry a j j
    → column (with_row a j entries) j ≡ column a j
own_column a entries j i own =
    row_ext (λ k. entry (with_row a j entries) k j) (λ k. entry a k j) (λ k l.
    with_row_each (λ s p v. p ≡ j → v ≡ entry a s p) a entries j
    (λ p m e. subst (λ (q : ℕ). counters entries q ≡ entry a j q) (sym e) own) (λ s p m n ne e. refl) k j l i refl)
