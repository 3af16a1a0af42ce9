-- Sixteen entries, and sixteen rows of them, as functions: which list is the row or the matrix of a function, and what stands
-- in those.
use mathlib.Core.Path.{◌≡◌, ap, ◌∙◌}
use mathlib.Core.List.{List}
use Prim.Native.Nat.{ℕ, ◌+◌, ◌*◌, ◌/◌, ◌%◌, ◌<◌}
use native.Mathlib.Omega.{arith}
use lib.ListN.{length, replicate, length-replicate, get_or-replicate}
use Rattle.book.specs.declared.Count.{Count}
use Rattle.lists.proofs.Over.{length_tab, get_d_tab, tab_is}
use Rattle.book.proofs.Values.{tally, tally_of}
use Rattle.consistency.specs.Known.{counters}
use Rattle.matrix.specs.Matrix.{as_row, as_matrix, entry}

pub row_is : (f : ℕ → ℕ) (l : List Count) → length l ≡ 16 → ((p : ℕ) → p < 16 → counters l p ≡ f p) → l ≡ as_row f
unfolding as_row
row_is f l long same = tab_is (tally 0) 16 (λ p. tally (f p)) l long (λ p h. tally_of (same p h))

pub matrix_is : (f : ℕ → ℕ → ℕ) (l : List Count) → length l ≡ 256 → ((j p : ℕ) → j < 16 → p < 16 → entry l j p ≡ f j p) → l ≡ as_matrix f
unfolding as_matrix
matrix_is f l long same = tab_is (tally 0) 256 (λ i. tally (f (i / 16) (i % 16))) l long (λ i h. tally_of (at i h))
  where
    at : (i : ℕ) → i < 256 → counters l i ≡ f (i / 16) (i % 16)
    at i h =
        let e : i ≡ i / 16 * 16 + i % 16 = omega arith in
        ap (counters l) e ∙ same (i / 16) (i % 16) (omega arith) (omega arith)

-- one value everywhere
pub one_value : (v : ℕ) → replicate 256 (tally v) ≡ as_matrix (λ j p. v)
unfolding as_matrix
one_value v = tab_is (tally 0) 256 (λ i. tally v) (replicate 256 (tally v)) (length-replicate 256 (tally v)) (λ i h. get_or-replicate 256 i (tally v) (tally 0) h)

pub counter_of_row : (f : ℕ → ℕ) (p : ℕ) → p < 16 → counters (as_row f) p ≡ f p
unfolding as_row
counter_of_row f p h =
    let g : ℕ → Count = λ i. record { 0 = f i } in
    ap (λ (r : Count). r.0) (get_d_tab 16 g p (record { 0 = 0 }) h)

pub entry_of_matrix : (f : ℕ → ℕ → ℕ) (j p : ℕ) → j < 16 → p < 16 → entry (as_matrix f) j p ≡ f j p
unfolding as_matrix
entry_of_matrix f j p h m =
    let g : ℕ → Count = λ i. record { 0 = f (i / 16) (i % 16) } in
    let down : (j * 16 + p) / 16 ≡ j = omega arith in
    let across : (j * 16 + p) % 16 ≡ p = omega arith in
    ap (λ (r : Count). r.0) (get_d_tab 256 g (j * 16 + p) (record { 0 = 0 }) (omega arith)) ∙ (ap (λ (k : ℕ). f k ((j * 16 + p) % 16)) down ∙ ap (f j) across)

pub row_length : (f : ℕ → ℕ) → length (as_row f) ≡ 16
unfolding as_row
row_length f = length_tab {A = Count} 16 (λ p. record { 0 = f p })
