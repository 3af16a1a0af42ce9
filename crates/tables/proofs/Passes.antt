-- Sound tables pass questions 6 to 9: each question finds nothing.
use mathlib.Core.Path.{◌≡◌, refl, sym, subst, ◌∙◌}
use mathlib.Core.Bool.{Bool, true, false}
use mathlib.Core.List.{List}
use Prim.Native.Nat.{ℕ, zero, suc, ◌+◌, ◌-◌, ◌*◌, ◌<◌}
use native.Mathlib.Nat.{add-zero}
use native.Mathlib.Omega.{arith}
use borrow.Author.Tests.{eq-eqb, ne_eqb}
use lib.ListN.{length, take, drop, get_or}
use lib.Seq.{slice}
use lib.Dec.{eqb}
use Rattle.book.specs.Lent.{Tables}
use Rattle.book.specs.Bounds.{mark}
use Rattle.book.specs.Layout.{joined}
use Rattle.book.specs.Tables.{partner_column, checkpoints_of, processes_of}
use Rattle.book.specs.View.{sum, first_row}
use Rattle.book.specs.Questions.{zero_if_asked, counter_question, all_zero, unused_of, unused_from}
use Rattle.book.specs.Along.{sent_zeros, received_zeros, process_question}
use Rattle.book.specs.Check.{rows_question}
use Rattle.book.specs.Fits.{RowsFit, BookFits}
use Rattle.book.proofs.Asked.{later_sent, later_received}
use Rattle.book.proofs.Counters.{good}
use Rattle.book.proofs.Fits.{rows_fit}
use Rattle.book.proofs.Starts.{starts_carried}
use Rattle.book.proofs.Rows.{column_within}
use Rattle.lists.proofs.Tests.{both_and}
use Rattle.book.specs.Before.{entry_before}
use Rattle.tables.specs.Sound.{RowsSound, TableSound, Passed}
use Rattle.tables.proofs.Zeros.{each_zeros}
use Rattle.tables.proofs.RowLoop.{Asked, asked_more, asked_end}
use Rattle.tables.proofs.ProcessLoop.{row_answer, row_fits, Climbed, climbed_none, climbed_more, climbed_end}
use Rattle.tables.proofs.BookLoop.{Walked, walked_none, walked_more, walked_end}
use Rattle.tables.proofs.UnusedLoop.{Clear, clear_none, clear_more, clear_end, Cleared, cleared_none, cleared_more, cleared_end}
use Rattle.tables.proofs.Sweeps.{repeated}

-- a half is asked for zeros only in an oldest row
module _ (asks : Bool → Bool) (later : asks false ≡ false) (n j first count : ℕ) (table : List ℕ)
    (fits : RowsFit n j first count table) (sound : RowsSound (asks true) n j first count table) where
  zero_passes : (zeros : Bool) (v : ℕ) → (zeros ≡ true → v ≡ 0) → zero_if_asked zeros v ≡ true
  zero_passes true v h = eq-eqb v 0 (h refl)
  zero_passes false v h = refl

  counter_passes : (r p : ℕ) → r < count → p < 16
      → counter_question mark (asks (eqb r 0)) (entry_before (eqb r 0) ((first + r) * 16 + p) table) (get_or table ((first + r) * 16 + p) 0) ≡ 0
  counter_passes zero p h k =
      let v : ℕ = get_or table ((first + 0) * 16 + p) 0 in
      sym (good mark (asks true) 0 v (sound.known 0 p h k) (zero_passes (asks true) v (λ z. rw (add-zero first) (sound.oldest z p k))) (omega arith))
  counter_passes (suc r) p h k =
      rw (ne_eqb (suc r) 0 (λ e. omega arith), later)
      (sym (good mark false _ _ (sound.known (suc r) p h k) refl (sound.rising (suc r) p (omega arith) h k)))

  row_passes : (r : ℕ) → r < count → row_answer mark (eqb r 0) (asks (eqb r 0)) n j ((first + r) * 16) table ≡ 0
  row_passes r h =
      let start : ℕ = (first + r) * 16 in
      let zeros : Bool = asks (eqb r 0) in
      let whole : ℕ = row_answer mark (eqb r 0) zeros n j start table in
      let row = row_fits n j first count r table fits h in
      sym (asked_end (eqb r 0) table start n j row zeros whole mark (n - 1)
      (repeated (Asked whole mark (eqb r 0) zeros table start n j) (n - 1) (record { passed = omega arith; rest = refl })
      (λ k l t. asked_more (eqb r 0) table start n j row zeros whole mark k t _ refl l
      (counter_passes r (partner_column j k) h (omega (arith, column_within j k)))))
      (omega arith))

module _ (zeros : Bool) (n j first count : ℕ) (table : List ℕ) (fits : RowsFit n j first count table) (sound : RowsSound zeros n j first count table) where
  unused_passes : all_zero (unused_of n j count (drop (first * 16) table)) ≡ true
  unused_passes =
      let whole : Bool = all_zero (unused_of n j count (drop (first * 16) table)) in
      sym (clear_end whole n j first count table count
      (repeated (Clear whole n j first count table) count (clear_none n j first count table fits)
      (λ r h t. clear_more whole n j first count table r t h (sound.own r h) _ refl (absent r h)))
      (omega arith))
    where
      absent : (r : ℕ) → r < count → all_zero (slice ((first + r) * 16 + n) ((first + r) * 16 + 16) table) ≡ true
      absent r h =
          each_zeros ((first + r) * 16 + n) ((first + r) * 16 + 16) table (omega arith)
          (λ i a b.
          let there : (first + r) * 16 + (i - (first + r) * 16) ≡ i = omega arith in
          rw there at (sound.absent r (i - (first + r) * 16) h (omega arith) (omega arith)))

process_passes : (n j first count : ℕ) (sent received : List ℕ) → RowsFit n j first count sent → RowsFit n j first count received
    → RowsSound (sent_zeros true) n j first count sent → RowsSound (received_zeros true) n j first count received
    → process_question mark n count (joined (checkpoints_of n j count (drop (first * 16) sent) (drop (first * 16) received))) ≡ 0
process_passes n j first count sent received fs fr s r =
    let whole : ℕ = process_question mark n count (joined (checkpoints_of n j count (drop (first * 16) sent) (drop (first * 16) received))) in
    sym (climbed_end whole mark n j first count sent received count
    (repeated (Climbed whole mark n j first count sent received) count (climbed_none mark n j first count sent received fs fr)
    (λ i h t. climbed_more whole mark n j first count sent received i t h
    _ refl _ refl (row_passes sent_zeros later_sent n j first count sent fs s i h)
    _ refl _ refl (row_passes received_zeros later_received n j first count received fr r i h)))
    (omega arith))

module _ (n : ℕ) (counts : List ℕ) (long : length counts ≡ 16) where
  rows_pass : (sent received : List ℕ) → BookFits n counts sent → BookFits n counts received → TableSound (sent_zeros true) n counts sent
      → TableSound (received_zeros true) n counts received → rows_question mark n (processes_of n 0 (take n counts) sent received) ≡ 0
  unfolding sum
  rows_pass sent received bs br s r =
      let whole : ℕ = rows_question mark n (processes_of n 0 (take n counts) sent received) in
      sym (walked_end whole mark n counts sent received (first_row counts n) n
      (repeated (λ j. Walked whole mark n counts sent received (first_row counts j) j) n
      (walked_none mark n counts sent received bs br long)
      (λ j h w. subst (λ f. Walked whole mark n counts sent received f (j + 1)) ((starts_carried counts).next j (first_row counts j) refl)
      (walked_more whole mark n counts sent received (first_row counts j) j w h _ refl
      (process_passes n j (first_row counts j) (get_or counts j 0) sent received
      (rows_fit bs h refl) (rows_fit br h refl) (s.rows j h) (r.rows j h)))))
      (omega arith))

  table_passes : (zeros : Bool) (table : List ℕ) → BookFits n counts table → TableSound zeros n counts table
      → all_zero (unused_from n 0 (take n counts) table) ≡ true
  unfolding sum
  table_passes zeros table b s =
      let whole : Bool = all_zero (unused_from n 0 (take n counts) table) in
      sym (cleared_end whole n counts table (first_row counts n) n
      (repeated (λ j. Cleared whole n counts table (first_row counts j) j) n (cleared_none n counts table b long)
      (λ j h t. subst (λ f. Cleared whole n counts table f (j + 1)) ((starts_carried counts).next j (first_row counts j) refl)
      (cleared_more whole n counts table (first_row counts j) j t h _ refl
      (unused_passes zeros n j (first_row counts j) (get_or counts j 0) table (rows_fit b h refl) (s.rows j h)))))
      (omega arith))
      ∙ each_zeros (first_row counts n * 16) 4096 table (omega (arith, b.whole)) s.after

-- both tables sound, each with zeros where its half is asked for them, and the counts of absent processes zero
pub tables_pass : (tables : Tables) → length tables.shape.counts ≡ 16
    → BookFits tables.shape.n tables.shape.counts tables.sent → BookFits tables.shape.n tables.shape.counts tables.received
    → all_zero (drop tables.shape.n tables.shape.counts) ≡ true
    → (zeros : Bool) → zeros ≡ sent_zeros true → TableSound zeros tables.shape.n tables.shape.counts tables.sent
    → (zeros' : Bool) → zeros' ≡ received_zeros true → TableSound zeros' tables.shape.n tables.shape.counts tables.received
    → Passed tables
tables_pass tables long bs br none zeros e s zeros' e' r =
    record {
      rows = rows_pass tables.shape.n tables.shape.counts long tables.sent tables.received bs br (rw e at s) (rw e' at r);
      unused = both_and _ _ none
          (both_and _ _ (table_passes tables.shape.n tables.shape.counts long zeros tables.sent bs s) (table_passes tables.shape.n tables.shape.counts long zeros' tables.received br r));
    }
