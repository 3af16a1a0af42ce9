-- Question 9 of one table: loops along the rows of a process, and along the processes.
use mathlib.Core.Path.{◌≡◌, refl, sym, ap, ◌∙◌}
use mathlib.Core.Bool.{Bool, true, false, ◌&&◌}
use mathlib.Core.List.{List, [], ◌∷◌, ◌++◌}
use Prim.Native.Nat.{ℕ, suc, ◌+◌, ◌-◌, ◌*◌, ◌≤◌, ◌<◌}
use native.Mathlib.Nat.{add-zero}
use native.Mathlib.Numerals.{add-one}
use native.Mathlib.Omega.{arith}
use lib.ListN.{length, take, drop, get_or}
use lib.Seq.{slice, drop-drop, get_or-drop, take_all}
use Rattle.book.specs.Questions.{all_zero, unused_of, unused_from}
use Rattle.book.specs.Fits.{RowsFit, BookFits}
use Rattle.book.proofs.Rows.{drop_rows, drop_take}
use Rattle.tables.proofs.Answers.{test_fails, test_passes}
use Rattle.tables.proofs.Zeros.{zero_none, zero_more, zero_fails, zero_append}
use Rattle.tables.proofs.BookLoop.{Placed, placed_none, placed_more, counts_next, counts_end}

-- the unused entries of the row at `start`, then those of the rows after it
unused_next : (n j left start : ℕ) (table : List ℕ)
    → unused_of n j (suc left) (drop start table)
    ≡ get_or table (start + j) 0 ∷ (slice (start + n) (start + 16) table ++ unused_of n j left (drop (start + 16) table))
unfolding unused_of
unused_next n j left start table =
    rw (get_or-drop start table j 0, drop-drop 16 start table, ← drop_take start 16 table, drop-drop n start (take (start + 16) table))

unused_none : (n j : ℕ) (table : List ℕ) → unused_of n j 0 table ≡ []
unfolding unused_of
unused_none n j table = refl

-- `whole` is the answer for all rows of the process: what is unused in those before r is zero
pub record Clear (whole : Bool) (n j first count : ℕ) (table : List ℕ) (r : ℕ) : Type 0 where
  pub in_table : RowsFit n j first count table
  pub passed : r ≤ count
  pub rest : whole ≡ all_zero (unused_of n j (count - r) (drop ((first + r) * 16) table))

pub clear_none : (n j first count : ℕ) (table : List ℕ) → RowsFit n j first count table
    → Clear (all_zero (unused_of n j count (drop (first * 16) table))) n j first count table 0
clear_none n j first count table f =
    let all : count - 0 ≡ count = omega arith in
    record { in_table = f; passed = omega arith; rest = rw (add-zero, all) }

module _ (whole : Bool) (n j first count : ℕ) (table : List ℕ) (r : ℕ) (t : Clear whole n j first count table r) where
  own : ℕ
  own = get_or table ((first + r) * 16 + j) 0

  absent : List ℕ
  absent = slice ((first + r) * 16 + n) ((first + r) * 16 + 16) table

  later : List ℕ
  later = unused_of n j (count - (r + 1)) (drop ((first + (r + 1)) * 16) table)

  module _ (h : r < count) where
    next : whole ≡ all_zero (own ∷ (absent ++ later))
    unfolding own absent later
    next =
        let one : count - r ≡ suc (count - (r + 1)) = omega arith in
        let at : (first + (r + 1)) * 16 ≡ (first + r) * 16 + 16 = omega arith in
        rw at
        (t.rest
        ∙ ap (λ (k : ℕ). all_zero (unused_of n j k (drop ((first + r) * 16) table))) one
        ∙ ap all_zero (unused_next n j (count - (r + 1)) ((first + r) * 16) table))

    pub own_fails : (get_or table ((first + r) * 16 + j) 0 ≡ 0 → ⊥) → false ≡ whole
    unfolding own
    own_fails f = sym (next ∙ zero_fails own (absent ++ later) f)

    module _ (z : get_or table ((first + r) * 16 + j) 0 ≡ 0) (a : Bool)
        (same : a ≡ all_zero (slice ((first + r) * 16 + n) ((first + r) * 16 + 16) table)) where
      after_own : whole ≡ (all_zero absent && all_zero later)
      unfolding own
      after_own = next ∙ zero_more own (absent ++ later) z ∙ zero_append absent later

      pub absent_fails : a ≡ false → false ≡ whole
      unfolding absent
      absent_fails f = test_fails whole a (all_zero absent) (all_zero later) after_own same f

      pub clear_more : a ≡ true → Clear whole n j first count table (r + 1)
      unfolding absent later
      clear_more f =
          record {
            in_table = t.in_table;
            passed = omega arith;
            rest = test_passes whole a (all_zero absent) (all_zero later) after_own same f;
          }

  pub clear_end : count ≤ r → true ≡ whole
  clear_end h =
      let none : count - r ≡ 0 = omega arith in
      sym (t.rest
      ∙ ap (λ (k : ℕ). all_zero (unused_of n j k (drop ((first + r) * 16) table))) none
      ∙ ap all_zero (unused_none n j (drop ((first + r) * 16) table))
      ∙ zero_none)

-- `whole` is the answer for all processes and the rows after them: what is unused before process j is zero
pub record Cleared (whole : Bool) (n : ℕ) (counts table : List ℕ) (first j : ℕ) : Type 0 where
  pub placed : Placed counts n first j
  pub in_table : BookFits n counts table
  pub rest : whole ≡ all_zero (unused_from n j (slice j n counts) (drop (first * 16) table))

from_next : (n j count : ℕ) (counts table : List ℕ)
    → all_zero (unused_from n j (count ∷ counts) table)
    ≡ (all_zero (unused_of n j count table) && all_zero (unused_from n (j + 1) counts (drop (count * 16) table)))
unfolding unused_from
from_next n j count counts table = rw (add-one j) (zero_append (unused_of n j count table) (unused_from n (suc j) counts (drop (count * 16) table)))

from_none : (n j : ℕ) (table : List ℕ) → unused_from n j [] table ≡ table
unfolding unused_from
from_none n j table = refl

pub cleared_none : (n : ℕ) (counts table : List ℕ) → BookFits n counts table → length counts ≡ 16
    → Cleared (all_zero (unused_from n 0 (take n counts) table)) n counts table 0 0
cleared_none n counts table b l = record { placed = placed_none n counts table b l; in_table = b; rest = refl }

module _ (whole : Bool) (n : ℕ) (counts table : List ℕ) (first j : ℕ) (t : Cleared whole n counts table first j) where
  module _ (h : j < n) (a : Bool) (same : a ≡ all_zero (unused_of n j (get_or counts j 0) (drop (first * 16) table))) where
    left : Bool
    left = all_zero (unused_from n (j + 1) (slice (j + 1) n counts) (drop ((first + get_or counts j 0) * 16) table))

    next_process : whole ≡ (all_zero (unused_of n j (get_or counts j 0) (drop (first * 16) table)) && left)
    unfolding left
    next_process =
        rw (← drop_rows first (get_or counts j 0) table)
        (t.rest
        ∙ ap (λ (l : List ℕ). all_zero (unused_from n j l (drop (first * 16) table))) (counts_next counts n first j t.placed h)
        ∙ from_next n j (get_or counts j 0) (slice (j + 1) n counts) (drop (first * 16) table))

    pub cleared_fails : a ≡ false → false ≡ whole
    cleared_fails f = test_fails whole a _ left next_process same f

    pub cleared_more : a ≡ true → Cleared whole n counts table (first + get_or counts j 0) (j + 1)
    unfolding left
    cleared_more f =
        record {
          placed = placed_more counts n first j t.placed h;
          in_table = t.in_table;
          rest = test_passes whole a _ left next_process same f;
        }

  pub cleared_end : n ≤ j → all_zero (slice (first * 16) 4096 table) ≡ whole
  cleared_end h =
      rw (take_all 4096 table (omega arith))
      (sym (t.rest
      ∙ ap (λ (l : List ℕ). all_zero (unused_from n j l (drop (first * 16) table))) (counts_end counts n first j t.placed h)
      ∙ ap all_zero (from_none n j (drop (first * 16) table))))
