-- The loop over one row's counters.
use Rattle.std.specs.Prelude.{Some, None, Result, Ok, Err}
use mathlib.Core.Path.{◌≡◌, refl, sym, ap, ap₂, ◌∙◌}
use mathlib.Core.Bool.{Bool, true, false}
use mathlib.Core.List.{List, [], ◌∷◌, ◌++◌}
use Prim.Native.Nat.{ℕ, suc, ◌+◌, ◌-◌, ◌≤◌, ◌<◌}
use native.Mathlib.Numerals.{add-one}
use native.Mathlib.Omega.{arith}
use lib.ListN.{length, take, drop, get_or, set, length-append, length-drop, drop_of_length-le}
use lib.Seq.{sets, length-sets, take_at, drop_at, drop-cons, append_snoc}
use Rattle.varint.specs.Number.{read_number}
use Rattle.varint.specs.Sequence.{Numbers, numbers_after}
use Rattle.varint.proofs.Sequence.{numbers_none, numbers_more}
use Rattle.book.specs.declared.Question.{Question}
use Rattle.book.specs.declared.Question.TheVariants.{Number}
use Rattle.book.specs.Bounds.{groups, largest, mark}
use Rattle.book.specs.Numbers.{number}
use Rattle.book.specs.Before.{entry_before, counters_before}
use Rattle.book.specs.InTurn.{◌then◌}
use Rattle.book.specs.Tables.{table_row, partner_column}
use Rattle.book.specs.Questions.{counter_question}
use Rattle.book.specs.Along.{counters_question}
use Rattle.book.proofs.Questions.{then_passed, then_refused}
use Rattle.book.proofs.Rows.{length_row, column_within}
use Rattle.book.proofs.Before as rows_before
use Rattle.book.specs.Read.{numbers_from}
use Rattle.reader.specs.Parts.{RowClear, RowTaken, failed}
use Rattle.reader.proofs.Answers.{positive, gives_none, same_value}
use Rattle.reader.proofs.RowTurns.{row_none, row_put}
use Rattle.lists.proofs.Stores.{get_d_below}
use Rattle.reader.proofs.Stores.{clear_same, set_within}

-- numbers in front of what is found after them
abbrev prepend : List ℕ → Numbers → Numbers
prepend done ns = record { found = done ++ ns.found; stop = ns.stop }

counters_cons : (zeros : Bool) (b v : ℕ) (bs vs : List ℕ)
    → counters_question mark zeros (b ∷ bs) (v ∷ vs) ≡ (counter_question mark zeros b v then λ _. counters_question mark zeros bs vs)
unfolding counters_question
counters_cons zeros b v bs vs = refl

counters_short : (zeros : Bool) (b : ℕ) (bs : List ℕ) → counters_question mark zeros (b ∷ bs) [] ≡ 3
unfolding counters_question
counters_short zeros b bs = refl

counters_none : (zeros : Bool) (vs : List ℕ) → counters_question mark zeros [] vs ≡ 0
unfolding counters_question
counters_none zeros vs = refl

-- the counters of the row before, one for each of the others
module _ (oldest : Bool) (n j start : ℕ) (table : List ℕ) (fits : RowClear oldest n j start table) where
  wide_before : n ≤ length (drop (start - 16) table)
  wide_before = rw length-drop (omega arith)

  pub length_before : length (counters_before oldest n j start table) ≡ n - 1
  length_before = rows_before.length_before n j start table fits.present wide_before oldest

  -- the entry one row before is the same after a part of the row is put
  before_put : (o : Bool) (k : ℕ) (row : List ℕ) → k < n - 1 → (o ≡ false → 16 ≤ start)
      → entry_before o (start + partner_column j k) table ≡ entry_before o (start + partner_column j k) (sets table start row)
  before_put true k row h later = refl
  before_put false k row h later =
      let at = later refl in
      sym (get_d_below row table start (start + partner_column j k - 16) (omega (arith, column_within j k, fits.most)))

  before_there : (k : ℕ) (row : List ℕ) → k < n - 1
      → get_or (counters_before oldest n j start table) k 0 ≡ entry_before oldest (start + partner_column j k) (sets table start row)
  before_there k row h =
      rows_before.before_there n j start table fits.present wide_before oldest k fits.later h ∙ before_put oldest k row h fits.later

-- k counters are read: they stand in their columns, and what is left to ask is asked of the numbers that follow
pub record Sofar (oldest zeros : Bool) (n j start : ℕ) (table₀ s : List ℕ) (at next k : ℕ) (table : List ℕ) : Type 0 where
  pub within : k ≤ n - 1
  pub done : List ℕ
  pub passed : length done ≡ k
  pub present : table ≡ sets table₀ start (table_row j done)
  pub found : numbers_from s at ≡ prepend done (numbers_from s next)
  pub asked : counters_question mark zeros (counters_before oldest n j start table₀) (numbers_from s at).found
      ≡ counters_question mark zeros (drop k (counters_before oldest n j start table₀)) (numbers_from s next).found

module _ (oldest zeros : Bool) (n j start : ℕ) (table₀ s : List ℕ) (at : ℕ) (fits : RowClear oldest n j start table₀) where
  abbrev before : List ℕ
  before = counters_before oldest n j start table₀

  pub sofar_begun : Sofar oldest zeros n j start table₀ s at at 0 table₀
  sofar_begun =
      record {
        within = omega arith;
        done = [];
        passed = refl;
        present = sym (ap (sets table₀ start) (row_none j) ∙ clear_same 16 start table₀ fits.clear);
        found = refl;
        asked = refl;
      }

  -- a question fails: nothing is said of the table
  refused_row : (r : Result ℕ Question) (e : Question) (table : List ℕ) → r ≡ Err e
      → number e ≡ counters_question mark zeros before (numbers_from s at).found
      → RowTaken oldest zeros n j start s at r table₀ table
  refused_row r e table er is =
      record { asked = ap failed er ∙ is; rest = λ _ w. absurd (gives_none er w); read = λ _ w. absurd (gives_none er w) }

  module _ (next k : ℕ) (table : List ℕ) (inv : Sofar oldest zeros n j start table₀ s at next k table) where
    pub sofar_length : length table ≡ length table₀
    sofar_length = ap length inv.present ∙ length-sets table₀ start (table_row j inv.done)

    module _ (h : k < n - 1) where
      split : drop k before ≡ get_or before k 0 ∷ drop (suc k) before
      split = drop-cons before k 0 (rw (length_before oldest n j start table₀ fits) h)

      onward : (ns : Numbers) → numbers_from s next ≡ ns
          → counters_question mark zeros before (numbers_from s at).found
          ≡ counters_question mark zeros (get_or before k 0 ∷ drop (suc k) before) ns.found
      onward ns e =
          inv.asked ∙ ap (λ (bs : List ℕ). counters_question mark zeros bs (numbers_from s next).found) split
          ∙ ap (λ (ms : Numbers). counters_question mark zeros (get_or before k 0 ∷ drop (suc k) before) ms.found) e

      -- no number stands there
      pub sofar_short : read_number groups largest s next ≡ None → RowTaken oldest zeros n j start s at (Err Number) table₀ table
      sofar_short r =
          refused_row (Err Number) Number table refl
          (sym (onward (record { found = []; stop = next }) (numbers_none groups largest s next r)
          ∙ counters_short zeros (get_or before k 0) (drop (suc k) before)))

      module _ (v after col b q : ℕ) (r : read_number groups largest s next ≡ Some (v, after)) (place : col ≡ partner_column j k)
          (there : b ≡ entry_before oldest (start + col) table) (e : q ≡ counter_question mark zeros b v) where
        same : q ≡ counter_question mark zeros (get_or before k 0) v
        same =
            e
            ∙ ap (λ (x : ℕ). counter_question mark zeros x v)
            (there ∙ ap₂ (λ (x : ℕ) (t : List ℕ). entry_before oldest (start + x) t) place inv.present
            ∙ sym (before_there oldest n j start table₀ fits k (table_row j inv.done) h))

        step : counters_question mark zeros before (numbers_from s at).found
            ≡ (q then λ _. counters_question mark zeros (drop (suc k) before) (numbers_from s after).found)
        step =
            onward (prepend (v ∷ []) (numbers_from s after)) (numbers_more groups largest s next v after r)
            ∙ counters_cons zeros (get_or before k 0) v (drop (suc k) before) (numbers_from s after).found
            ∙ ap (λ (p : ℕ). p then λ _. counters_question mark zeros (drop (suc k) before) (numbers_from s after).found) (sym same)

        -- the counter fails a question
        pub sofar_refused : (answer : Result ℕ Question) (f : Question) → answer ≡ Err f → q ≡ number f
            → RowTaken oldest zeros n j start s at answer table₀ table
        sofar_refused answer f ef is =
            refused_row answer f table ef (sym is ∙ sym (step ∙ then_refused _ _ (λ z. positive f (sym is ∙ z))))

        -- it passes
        pub sofar_more : q ≡ 0 → Sofar oldest zeros n j start table₀ s at after (k + 1) (set table (start + col) v)
        sofar_more z =
            let few : k < 15 = omega (arith, fits.most) in
            let wide : length (table_row j inv.done) ≡ 16 = length_row j inv.done (omega (arith, inv.passed)) in
            record {
              within = omega arith;
              done = inv.done ++ (v ∷ []);
              passed = length-append inv.done (v ∷ []) ∙ ap (λ (m : ℕ). m + 1) inv.passed;
              present = ap₂ (λ (x : ℕ) (t : List ℕ). set t (start + x) v) place inv.present
                  ∙ set_within (table_row j inv.done) table₀ start (partner_column j k) (start + partner_column j k) v (omega (arith, column_within j k)) refl
                  ∙ ap (sets table₀ start) (row_put j k v inv.done inv.passed few);
              found = inv.found ∙ ap (prepend inv.done) (numbers_more groups largest s next v after r)
                  ∙ (λ i. record { found = sym (append_snoc inv.done v (numbers_from s after).found) i; stop = (numbers_from s after).stop });
              asked = step ∙ then_passed _ _ z
                  ∙ ap (λ (m : ℕ). counters_question mark zeros (drop m before) (numbers_from s after).found) (sym (add-one k));
            }

    -- all are asked
    pub sofar_ended : n - 1 ≤ k → RowTaken oldest zeros n j start s at (Ok next) table₀ table
    sofar_ended h =
        let all : length inv.done ≡ n - 1 = omega (arith, inv.passed, inv.within) in
        let none : drop k before ≡ [] = drop_of_length-le before {i = k} (rw (length_before oldest n j start table₀ fits) h) in
        record {
          asked = sym (inv.asked ∙ ap (λ (bs : List ℕ). counters_question mark zeros bs (numbers_from s next).found) none
              ∙ counters_none zeros (numbers_from s next).found);
          rest = λ v w. ap (numbers_from s) (sym (same_value w)) ∙ sym (ap (numbers_after (n - 1)) inv.found
              ∙ (λ i. record { found = drop_at inv.done (numbers_from s next).found (n - 1) all i; stop = (numbers_from s next).stop }));
          read = λ _ _. inv.present ∙ ap (λ (cs : List ℕ). sets table₀ start (table_row j cs))
              (sym (ap (λ (ns : Numbers). take (n - 1) ns.found) inv.found ∙ take_at inv.done (numbers_from s next).found (n - 1) all));
        }
