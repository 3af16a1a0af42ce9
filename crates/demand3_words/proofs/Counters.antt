-- Rows and matrices of counters that are at most the mark.
use mathlib.Core.Path.{◌≡◌, sym, ap, subst}
use mathlib.Core.Bool.{true}
use mathlib.Core.List.{List}
use Prim.Native.Nat.{ℕ, ◌+◌, ◌*◌, ◌/◌, ◌%◌, ◌<◌}
use native.Mathlib.Omega.{arith}
use lib.Dec.{eqb}
use Rattle.book.specs.declared.Count.{Count}
use Rattle.book.specs.Bounds.{mark}
use Rattle.lists.proofs.Over.{length_tab, get_d_tab}
use Rattle.consistency.specs.Known.{counters}
use Rattle.lists.specs.Pick.{pick}
use Rattle.lists.proofs.Pick.{pick_each}
use Rattle.matrix.specs.Matrix.{as_row, as_matrix, entry, with_row, is_pair, not_known_at, not_known_row, not_known_matrix}
use Rattle.matrix.specs.Entries.{patch, all_lower}
use Rattle.matrix.proofs.Rows.{row_length, counter_of_row}
use Rattle.matrix.proofs.Theorems.{patch_not_raised}
use Rattle.words.specs.Words.{matrix_length, counter_bound}
use Rattle.word_laws.specs.Values.{AreCounts}

-- ---- made of a function

pub row_counts : (f : ℕ → ℕ) → ((p : ℕ) → p < 16 → f p < counter_bound) → AreCounts 16 (as_row f)
row_counts f small =
    record {
      long = row_length f;
      low = λ p h. subst (λ (v : ℕ). v < counter_bound) (sym (counter_of_row f p h)) (small p h);
    }

pub matrix_counts : (f : ℕ → ℕ → ℕ) → ((j p : ℕ) → j < 16 → p < 16 → f j p < counter_bound) → AreCounts matrix_length (as_matrix f)
unfolding as_matrix
matrix_counts f small =
    let g : ℕ → Count = λ i. record { 0 = f (i / 16) (i % 16) } in
    record {
      long = length_tab matrix_length g;
      low = λ i h.
          subst (λ (v : ℕ). v < counter_bound) (sym (ap (λ (c : Count). c.0) (get_d_tab matrix_length g i (record { 0 = 0 }) h)))
          (small (i / 16) (i % 16) (omega arith) (omega arith));
    }

-- ---- "not known", and nothing

not_known_low : (n j p : ℕ) → not_known_at n j p < counter_bound
not_known_low n j p = pick_each (λ (v : ℕ). v < counter_bound) (is_pair n j p) mark 0 (omega arith) (omega arith)

pub unknown_row : (n j : ℕ) → AreCounts 16 (not_known_row n j)
unknown_row n j = row_counts (λ p. not_known_at n j p) (λ p h. not_known_low n j p)

pub unknown_matrix : (n : ℕ) → AreCounts matrix_length (not_known_matrix n)
unknown_matrix n = matrix_counts (λ j p. not_known_at n j p) (λ j p h k. not_known_low n j p)

pub zero_row : AreCounts 16 (as_row (λ p. 0))
zero_row = row_counts (λ p. 0) (λ p h. omega arith)

pub zero_matrix : AreCounts matrix_length (as_matrix (λ j p. 0))
zero_matrix = matrix_counts (λ j p. 0) (λ j p h k. omega arith)

-- ---- changed

-- with another row
pub row_put : (matrix entries : List Count) (j : ℕ) → AreCounts matrix_length matrix → AreCounts 16 entries → AreCounts matrix_length (with_row matrix j entries)
row_put matrix entries j are row =
    matrix_counts (λ i p. pick (eqb i j) (counters entries p) (entry matrix i p))
    (λ i p h k.
    pick_each (λ (v : ℕ). v < counter_bound) (eqb i j) (counters entries p) (entry matrix i p) (row.low p k)
    (are.low (i * 16 + p) (omega arith)))

-- with news that question 16 passed: no entry is raised
pub news_put : (held news : List Count) → ((p : ℕ) → p < 16 → counters held p < counter_bound) → all_lower news held ≡ true
    → AreCounts 16 (patch held news)
news_put held news small lower =
    record {
      long = row_length _;
      low = λ p h. omega (arith, patch_not_raised held news lower p h, small p h);
    }
