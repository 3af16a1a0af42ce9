-- Questions 6 to 8 of one process: a loop along its rows, sent before received.
use mathlib.Core.Path.{◌≡◌, refl, sym, ap, ◌∙◌}
use mathlib.Core.Bool.{Bool, false}
use mathlib.Core.List.{List, ◌++◌}
use Prim.Native.Nat.{ℕ, suc, ◌+◌, ◌-◌, ◌*◌, ◌≤◌, ◌<◌}
use native.Mathlib.Nat.{add-zero}
use native.Mathlib.Decide.{dec_lt}
use native.Mathlib.Omega.{arith}
use borrow.Author.Tests.{eqb-false, ne_eqb}
use lib.ListN.{length, drop, length-append, replicate-append-replicate}
use lib.Seq.{drop_at, drop-drop}
use lib.Dec.{eqb}
use Rattle.book.specs.Layout.{joined}
use Rattle.book.specs.Tables.{others, checkpoints_of}
use Rattle.book.specs.InTurn.{◌then◌}
use Rattle.book.specs.Along.{counters_question, sent_zeros, received_zeros, checkpoint_question, checkpoints_question, process_question}
use Rattle.book.specs.Fits.{RowsFit}
use Rattle.book.proofs.Asked.{counters_front, checkpoint_halves, checkpoints_next}
use Rattle.book.proofs.Questions.{then_assoc}
use Rattle.book.specs.Before.{counters_before}
use Rattle.tables.specs.Row.{RowFits}
use Rattle.tables.proofs.Answers.{answer_fails, answer_passes}
use Rattle.tables.proofs.RowLoop.{length_row, length_before}

-- the answer of one row
abbrev pub row_answer : ℕ → Bool → Bool → ℕ → ℕ → ℕ → List ℕ → ℕ
row_answer mark oldest zeros n j start table = counters_question mark zeros (counters_before oldest n j start table) (others n j (drop start table))

-- the answer of the last `left` rows, of which the first is at `start`
unfoldable pub rows_left : ℕ → Bool → ℕ → ℕ → ℕ → ℕ → List ℕ → List ℕ → ℕ
rows_left mark oldest n j start left sent received =
    checkpoints_question mark n oldest (counters_before oldest n j start sent ++ counters_before oldest n j start received) left
    (joined (checkpoints_of n j left (drop start sent) (drop start received)))

-- a checkpoint whose halves stand apart, and those after it
halves_next : (mark n : ℕ) (oldest : Bool) (b₁ b₂ v₁ v₂ more : List ℕ) (left : ℕ)
    → length b₁ ≡ n - 1 → length b₂ ≡ n - 1 → length v₁ ≡ n - 1 → length v₂ ≡ n - 1
    → checkpoints_question mark n oldest (b₁ ++ b₂) (suc left) ((v₁ ++ v₂) ++ more)
    ≡ (counters_question mark (sent_zeros oldest) b₁ v₁
    then λ _. counters_question mark (received_zeros oldest) b₂ v₂
    then λ _. checkpoints_question mark n false (v₁ ++ v₂) left more)
halves_next mark n oldest b₁ b₂ v₁ v₂ more left c₁ c₂ d₁ d₂ =
    let after : Unit {0} → ℕ = λ _. checkpoints_question mark n false (v₁ ++ v₂) left more in
    let halves : checkpoint_question mark n oldest (b₁ ++ b₂) (v₁ ++ v₂)
    ≡ (counters_question mark (sent_zeros oldest) b₁ v₁ then λ _. counters_question mark (received_zeros oldest) b₂ v₂)
    = checkpoint_halves mark n oldest b₁ b₂ (v₁ ++ v₂) c₁
    ∙ rw (counters_front mark (sent_zeros oldest) b₁ v₁ v₂ (omega arith), drop_at v₁ v₂ (n - 1) d₁) in
    checkpoints_next mark n oldest (b₁ ++ b₂) (v₁ ++ v₂) left more (simp length-append (omega arith)) (simp length-append (omega arith))
    ∙ ap (λ (q : ℕ). q then after) halves
    ∙ then_assoc (counters_question mark (sent_zeros oldest) b₁ v₁) (λ _. counters_question mark (received_zeros oldest) b₂ v₂) after

module _ (mark : ℕ) (oldest : Bool) (n j start : ℕ) (sent received : List ℕ) where
  rows_none : rows_left mark oldest n j start 0 sent received ≡ 0
  unfolding rows_left checkpoints_question
  rows_none = refl

  later_rows : (left : ℕ) → rows_left mark false n j (start + 16) left sent received
      ≡ checkpoints_question mark n false (others n j (drop start sent) ++ others n j (drop start received)) left
      (joined (checkpoints_of n j left (drop 16 (drop start sent)) (drop 16 (drop start received))))
  unfolding rows_left counters_before
  later_rows left =
      let same : start + 16 - 16 ≡ start = omega arith in
      rw (drop-drop 16 start sent, drop-drop 16 start received, same)

  rows_next : (left : ℕ) → RowFits oldest n j start sent → RowFits oldest n j start received
      → rows_left mark oldest n j start (suc left) sent received
      ≡ (row_answer mark oldest (sent_zeros oldest) n j start sent
      then λ _. row_answer mark oldest (received_zeros oldest) n j start received
      then λ _. rows_left mark false n j (start + 16) left sent received)
  unfolding rows_left checkpoints_of joined
  rows_next left s r =
      halves_next mark n oldest (counters_before oldest n j start sent) (counters_before oldest n j start received)
      (others n j (drop start sent)) (others n j (drop start received))
      (joined (checkpoints_of n j left (drop 16 (drop start sent)) (drop 16 (drop start received)))) left
      (length_before oldest sent start n j s) (length_before oldest received start n j r)
      (length_row oldest sent start n j s) (length_row oldest received start n j r)
      ∙ ap (λ (q : ℕ). row_answer mark oldest (sent_zeros oldest) n j start sent then λ _. row_answer mark oldest (received_zeros oldest) n j start received then λ _. q) (sym (later_rows left))

-- row r of the process
pub row_fits : (n j first count r : ℕ) (table : List ℕ) → RowsFit n j first count table → r < count
    → RowFits (eqb r 0) n j ((first + r) * 16) table
row_fits n j first count r table f h =
    record {
      row = first + r;
      starts = refl;
      fits = record { present = f.present; most = f.most; inside = omega arith; whole = f.whole };
      later = λ e. omega (arith, above e);
    }
  where
    above : eqb r 0 ≡ false → 1 ≤ r
    above e = elim (dec_lt 0 r) [ yes l ↦ l | no l ↦ absurd (eqb-false r 0 e (omega arith)) ]

-- `whole` is the answer for all rows of the process: those before r pass
pub record Climbed (whole mark n j first count : ℕ) (sent received : List ℕ) (r : ℕ) : Type 0 where
  pub in_sent : RowsFit n j first count sent
  pub in_received : RowsFit n j first count received
  pub passed : r ≤ count
  pub rest : whole ≡ rows_left mark (eqb r 0) n j ((first + r) * 16) (count - r) sent received

pub climbed_none : (mark n j first count : ℕ) (sent received : List ℕ) → RowsFit n j first count sent → RowsFit n j first count received
    → Climbed (process_question mark n count (joined (checkpoints_of n j count (drop (first * 16) sent) (drop (first * 16) received))))
    mark n j first count sent received 0
unfolding rows_left counters_before
climbed_none mark n j first count sent received s r =
    let two : (n - 1) + (n - 1) ≡ 2 * (n - 1) = omega arith in
    let all : count - 0 ≡ count = omega arith in
    record { in_sent = s; in_received = r; passed = omega arith; rest = rw (add-zero, replicate-append-replicate, two, all) }

module _ (whole mark n j first count : ℕ) (sent received : List ℕ) (r : ℕ) (t : Climbed whole mark n j first count sent received r) where
  left : ℕ
  left = rows_left mark (eqb (r + 1) 0) n j ((first + (r + 1)) * 16) (count - (r + 1)) sent received

  module _ (h : r < count) where
    pub sent_fits : RowFits (eqb r 0) n j ((first + r) * 16) sent
    sent_fits = row_fits n j first count r sent t.in_sent h

    pub received_fits : RowFits (eqb r 0) n j ((first + r) * 16) received
    received_fits = row_fits n j first count r received t.in_received h

    -- the answers of the two rows
    abbrev of_sent : Bool → ℕ
    of_sent zeros = row_answer mark (eqb r 0) zeros n j ((first + r) * 16) sent

    abbrev of_received : Bool → ℕ
    of_received zeros = row_answer mark (eqb r 0) zeros n j ((first + r) * 16) received

    next : whole ≡ (of_sent (sent_zeros (eqb r 0)) then λ _. of_received (received_zeros (eqb r 0)) then λ _. left)
    unfolding left
    next =
        let one : count - r ≡ suc (count - (r + 1)) = omega arith in
        let at : (first + (r + 1)) * 16 ≡ (first + r) * 16 + 16 = omega arith in
        rw (ne_eqb (r + 1) 0 (λ e. omega arith), at)
        (t.rest
        ∙ ap (λ (k : ℕ). rows_left mark (eqb r 0) n j ((first + r) * 16) k sent received) one
        ∙ rows_next mark (eqb r 0) n j ((first + r) * 16) sent received (count - (r + 1)) sent_fits received_fits)

    module _ (zeros : Bool) (asks : zeros ≡ sent_zeros (eqb r 0)) (a : ℕ)
        (same : a ≡ row_answer mark (eqb r 0) zeros n j ((first + r) * 16) sent) where
      after : Unit {0} → ℕ
      after _ = of_received (received_zeros (eqb r 0)) then λ _. left

      pub sent_fails : (a ≡ 0 → ⊥) → a ≡ whole
      unfolding after
      sent_fails f = answer_fails whole a (of_sent (sent_zeros (eqb r 0))) after next (same ∙ ap of_sent asks) f

      module _ (z : a ≡ 0) (zeros' : Bool) (asks' : zeros' ≡ received_zeros (eqb r 0)) (b : ℕ)
          (like : b ≡ row_answer mark (eqb r 0) zeros' n j ((first + r) * 16) received) where
        after_sent : whole ≡ (of_received (received_zeros (eqb r 0)) then λ _. left)
        unfolding after
        after_sent = answer_passes whole a (of_sent (sent_zeros (eqb r 0))) after next (same ∙ ap of_sent asks) z

        pub received_fails : (b ≡ 0 → ⊥) → b ≡ whole
        received_fails f =
            answer_fails whole b (of_received (received_zeros (eqb r 0))) (λ _. left) after_sent (like ∙ ap of_received asks') f

        pub climbed_more : b ≡ 0 → Climbed whole mark n j first count sent received (r + 1)
        unfolding left
        climbed_more y =
            record {
              in_sent = t.in_sent;
              in_received = t.in_received;
              passed = omega arith;
              rest =
                  answer_passes whole b (of_received (received_zeros (eqb r 0))) (λ _. left) after_sent (like ∙ ap of_received asks') y;
            }

  pub climbed_end : count ≤ r → 0 ≡ whole
  climbed_end h =
      let none : count - r ≡ 0 = omega arith in
      sym (t.rest
      ∙ ap (λ (k : ℕ). rows_left mark (eqb r 0) n j ((first + r) * 16) k sent received) none
      ∙ rows_none mark (eqb r 0) n j ((first + r) * 16) sent received)
