-- Questions 6 to 8 of one row: a loop along its counters.
use mathlib.Core.Path.{◌≡◌, refl, sym, ap, ◌∙◌}
use mathlib.Core.Bool.{Bool}
use mathlib.Core.List.{List, []}
use Prim.Native.Nat.{ℕ, ◌+◌, ◌-◌, ◌≤◌, ◌<◌}
use native.Mathlib.Numerals.{add-one}
use native.Mathlib.Omega.{arith}
use lib.ListN.{length, drop, get_or, length-drop, drop_of_length-le}
use lib.Seq.{drop-cons, get_or-drop}
use Rattle.book.specs.Tables.{others, partner_column}
use Rattle.book.specs.InTurn.{◌then◌}
use Rattle.book.specs.Before.{entry_before, counters_before}
use Rattle.book.specs.Questions.{counter_question}
use Rattle.book.specs.Along.{counters_question}
use Rattle.book.proofs.Rows.{length_others, get_d_others}
use Rattle.book.proofs.Before as rows_before
use Rattle.tables.specs.Row.{RowFits}
use Rattle.tables.proofs.Answers.{answer_fails, answer_passes}

-- the questions of counters, one more of them on each side
counters_next : (mark : ℕ) (zeros : Bool) (bs vs : List ℕ) (k : ℕ) → k < length bs → k < length vs
    → counters_question mark zeros (drop k bs) (drop k vs)
    ≡ (counter_question mark zeros (get_or bs k 0) (get_or vs k 0)
    then λ _. counters_question mark zeros (drop (k + 1) bs) (drop (k + 1) vs))
unfolding counters_question
counters_next mark zeros bs vs k h l = rw (add-one, drop-cons bs k 0 h, drop-cons vs k 0 l)

counters_none : (mark : ℕ) (zeros : Bool) (vs : List ℕ) → counters_question mark zeros [] vs ≡ 0
unfolding counters_question
counters_none mark zeros vs = refl

-- `whole` is the answer for all counters of the row at `start`: those before k pass
pub record Asked (whole mark : ℕ) (oldest zeros : Bool) (table : List ℕ) (start n j k : ℕ) : Type 0 where
  pub passed : k ≤ n - 1
  pub rest : whole ≡ counters_question mark zeros (drop k (counters_before oldest n j start table)) (drop k (others n j (drop start table)))

module _ (oldest : Bool) (table : List ℕ) (start n j : ℕ) (row : RowFits oldest n j start table) where
  wide : n ≤ length (drop start table)
  wide = rw length-drop (omega arith)

  wide_before : n ≤ length (drop (start - 16) table)
  wide_before = rw length-drop (omega arith)

  pub length_row : length (others n j (drop start table)) ≡ n - 1
  length_row = length_others n j (drop start table) row.fits.present wide

  pub length_before : length (counters_before oldest n j start table) ≡ n - 1
  length_before = rows_before.length_before n j start table row.fits.present wide_before oldest

  module _ (k : ℕ) (h : k < n - 1) where
    there : get_or (others n j (drop start table)) k 0 ≡ get_or table (start + partner_column j k) 0
    there = get_d_others n j k (drop start table) row.fits.present wide h ∙ get_or-drop start table (partner_column j k) 0

    before_there : get_or (counters_before oldest n j start table) k 0 ≡ entry_before oldest (start + partner_column j k) table
    before_there = rows_before.before_there n j start table row.fits.present wide_before oldest k row.later h

  module _ (zeros : Bool) (whole mark k : ℕ) (t : Asked whole mark oldest zeros table start n j k) where
    asked : ℕ
    asked = counter_question mark zeros (entry_before oldest (start + partner_column j k) table) (get_or table (start + partner_column j k) 0)

    left : ℕ
    left = counters_question mark zeros (drop (k + 1) (counters_before oldest n j start table)) (drop (k + 1) (others n j (drop start table)))

    next : k < n - 1 → whole ≡ (asked then λ _. left)
    unfolding asked left
    next h =
        rw (← before_there k h, ← there k h)
        (t.rest
        ∙ counters_next mark zeros (counters_before oldest n j start table) (others n j (drop start table)) k
        (rw length_before h) (rw length_row h))

    module _ (a : ℕ)
        (same : a ≡ counter_question mark zeros (entry_before oldest (start + partner_column j k) table) (get_or table (start + partner_column j k) 0))
        (h : k < n - 1) where
      pub asked_fail : (a ≡ 0 → ⊥) → a ≡ whole
      unfolding asked left
      asked_fail f = answer_fails whole a asked (λ _. left) (next h) same f

      pub asked_more : a ≡ 0 → Asked whole mark oldest zeros table start n j (k + 1)
      unfolding asked left
      asked_more z = record { passed = omega arith; rest = answer_passes whole a asked (λ _. left) (next h) same z }

    pub asked_end : n - 1 ≤ k → 0 ≡ whole
    asked_end h =
        sym (t.rest
        ∙ ap (λ (bs : List ℕ). counters_question mark zeros bs (drop k (others n j (drop start table))))
        (drop_of_length-le (counters_before oldest n j start table) {i = k} (rw length_before h))
        ∙ counters_none mark zeros (drop k (others n j (drop start table))))
