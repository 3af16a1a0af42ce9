-- The loop over one process's checkpoints.
use Rattle.std.specs.Prelude.{Result, Ok, Err}
use mathlib.Core.Path.{◌≡◌, refl, sym, ap, ap₂, ◌∙◌}
use mathlib.Core.Bool.{Bool, false}
use mathlib.Core.List.{List, ◌++◌}
use Prim.Native.Nat.{ℕ, suc, ◌+◌, ◌*◌, ◌-◌, ◌≤◌, ◌<◌}
use native.Mathlib.Nat.{zero-mul, suc-mul}
use native.Mathlib.Numerals.{add-one}
use native.Mathlib.Omega.{arith}
use borrow.Author.Tests.{ne_eqb}
use lib.ListN.{length, take, drop, replicate-append-replicate}
use lib.Seq.{length-take-le, take-take, take-add, drop-drop}
use lib.Dec.{eqb}
use Rattle.varint.specs.Sequence.{Numbers, numbers_after}
use Rattle.book.specs.declared.Question.{Question}
use Rattle.book.specs.Bounds.{mark}
use Rattle.book.specs.Numbers.{number}
use Rattle.book.specs.InTurn.{◌then◌}
use Rattle.book.specs.Layout.{width}
use Rattle.book.specs.Along.{counters_question, sent_zeros, received_zeros, checkpoints_question, process_question}
use Rattle.book.proofs.Asked.{counters_long, checkpoint_halves}
use Rattle.book.proofs.Questions.{then_passed, then_refused, then_assoc}
use Rattle.book.proofs.Rows.{drop_take}
use Rattle.book.specs.Before.{counters_before}
use Rattle.book.specs.Read.{numbers_from}
use Rattle.reader.specs.Parts.{RowClear, RowsClear, RowTaken, CheckpointsTaken, failed}
use Rattle.reader.proofs.Answers.{fails, gives_none, same_value}
use Rattle.reader.proofs.CounterLoop.{length_before}
use Rattle.reader.proofs.RowTurns.{others_put}
use Rattle.reader.proofs.ProcessRows.{Rows, rows_begun, rows_length, rows_fit, rows_more, rows_ended}

-- the numbers after k, and of those the ones after m
after_after : (k m : ℕ) (ns : Numbers) → numbers_after m (numbers_after k ns) ≡ numbers_after (k + m) ns
after_after k m ns = λ i. record { found = drop-drop m k ns.found i; stop = ns.stop }

checkpoints_none : (n : ℕ) (oldest : Bool) (before vs : List ℕ) → checkpoints_question mark n oldest before 0 vs ≡ 0
unfolding checkpoints_question
checkpoints_none n oldest before vs = refl

-- the questions of a checkpoint's sent counters, those of its received ones, and those of the checkpoints after it
checkpoints_both : (n : ℕ) (oldest : Bool) (b₁ b₂ vs : List ℕ) (left : ℕ) → length b₁ ≡ n - 1
    → checkpoints_question mark n oldest (b₁ ++ b₂) (suc left) vs
    ≡ (counters_question mark (sent_zeros oldest) b₁ vs
    then λ _. counters_question mark (received_zeros oldest) b₂ (drop (n - 1) vs)
    then λ _. checkpoints_question mark n false (take (width n) vs) left (drop (width n) vs))
unfolding checkpoints_question
checkpoints_both n oldest b₁ b₂ vs left h =
    let later : Unit {0} → ℕ = λ _. checkpoints_question mark n false (take (width n) vs) left (drop (width n) vs) in
    ap (λ (q : ℕ). q then later) (checkpoint_halves mark n oldest b₁ b₂ vs h)
    ∙ then_assoc (counters_question mark (sent_zeros oldest) b₁ vs) (λ _. counters_question mark (received_zeros oldest) b₂ (drop (n - 1) vs)) later

-- the numbers from a place on, and the questions of the checkpoints after the one that stands there
abbrev list_from : List ℕ → ℕ → List ℕ
list_from s at = (numbers_from s at).found

abbrev question_after : ℕ → ℕ → List ℕ → ℕ
question_after n left vs = checkpoints_question mark n false (take (width n) vs) left (drop (width n) vs)

-- the counters before checkpoint r, in one table and in both
abbrev row_before : ℕ → ℕ → ℕ → ℕ → List ℕ → List ℕ
row_before n j first r table = counters_before (eqb r 0) n j ((first + r) * 16) table

abbrev both_before : ℕ → ℕ → ℕ → ℕ → List ℕ → List ℕ → List ℕ
both_before n j first r sent received = row_before n j first r sent ++ row_before n j first r received

-- a row was taken: it has all its counters, and it is the row before the next
module _ (oldest zeros : Bool) (n j row : ℕ) (table table' s : List ℕ) (at : ℕ) (r : Result ℕ Question) (fits : RowClear oldest n j (row * 16) table)
    (did : RowTaken oldest zeros n j (row * 16) s at r table table') (next : ℕ) (z : r ≡ Ok next) where
  row_long : length (take (n - 1) (list_from s at)) ≡ n - 1
  row_long =
      length-take-le (n - 1) (list_from s at)
      (rw (length_before oldest n j (row * 16) table fits) at (counters_long mark zeros (counters_before oldest n j (row * 16) table) (list_from s at) (sym did.asked ∙ ap failed z)))

  row_short : length (take (n - 1) (list_from s at)) < 16
  row_short = omega (arith, row_long, fits.present, fits.most)

  row_next : counters_before false n j ((row + 1) * 16) table' ≡ take (n - 1) (list_from s at)
  unfolding counters_before
  row_next =
      let here : (row + 1) * 16 - 16 ≡ row * 16 = omega arith in
      rw (here, did.read next z)
      (others_put n j (row * 16) (take (n - 1) (list_from s at)) table fits.present fits.most row_long (omega (arith, fits.inside, fits.whole)))

-- r checkpoints are taken: their rows stand in both tables, and what is left to ask is asked of the numbers that follow
pub record Passed (n j first count : ℕ) (s : List ℕ) (at : ℕ) (sent₀ received₀ sent received : List ℕ) (next r : ℕ) : Type 0 where
  pub within : r ≤ count
  pub sent_rows : Rows (take (n - 1)) n j first count r (list_from s at) (list_from s next) sent₀ sent
  pub received_rows : Rows (drop (n - 1)) n j first count r (list_from s at) (list_from s next) received₀ received
  pub rest : numbers_from s next ≡ numbers_after (r * width n) (numbers_from s at)
  pub asked : process_question mark n count (list_from s at)
      ≡ checkpoints_question mark n (eqb r 0) (both_before n j first r sent received) (count - r) (list_from s next)

pub passed_begun : (n j first count : ℕ) (s : List ℕ) (at : ℕ) (sent received : List ℕ)
    → Passed n j first count s at sent received sent received at 0
unfolding counters_before
passed_begun n j first count s at sent received =
    let two : (n - 1) + (n - 1) ≡ 2 * (n - 1) = omega arith in
    let all : count - 0 ≡ count = omega arith in
    record {
      within = omega arith;
      sent_rows = rows_begun (take (n - 1)) n j first count (list_from s at) sent;
      received_rows = rows_begun (drop (n - 1)) n j first count (list_from s at) received;
      rest = rw (zero-mul (width n));
      asked = rw (replicate-append-replicate, two, all);
    }

module _ (n j first count : ℕ) (s : List ℕ) (at : ℕ) (sent₀ received₀ sent received : List ℕ) (next r : ℕ)
    (inv : Passed n j first count s at sent₀ received₀ sent received next r) where
  pub passed_sent : length sent ≡ length sent₀
  passed_sent = rows_length _ _ _ _ _ _ _ _ _ _ inv.sent_rows

  pub passed_received : length received ≡ length received₀
  passed_received = rows_length _ _ _ _ _ _ _ _ _ _ inv.received_rows

  module _ (fits : RowsClear n j first count sent₀) (fits' : RowsClear n j first count received₀) (h : r < count) where
    pub sent_fits : RowClear (eqb r 0) n j ((first + r) * 16) sent
    sent_fits = rows_fit _ _ _ _ _ _ _ _ _ _ inv.sent_rows fits h

    pub received_fits : RowClear (eqb r 0) n j ((first + r) * 16) received
    received_fits = rows_fit _ _ _ _ _ _ _ _ _ _ inv.received_rows fits' h

    module _ (zeros : Bool) (asks : zeros ≡ sent_zeros (eqb r 0)) (one : Result ℕ Question) (sent' : List ℕ)
        (did : RowTaken (eqb r 0) zeros n j ((first + r) * 16) s next one sent sent') where
      -- the questions after those of the sent counters
      after_sent : Unit {0} → ℕ
      after_sent _ =
          counters_question mark (received_zeros (eqb r 0)) (row_before n j first r received) (drop (n - 1) (list_from s next))
          then λ _. question_after n (count - (r + 1)) (list_from s next)

      of_sent : process_question mark n count (list_from s at) ≡ (failed one then after_sent)
      unfolding after_sent
      of_sent =
          let more : count - r ≡ suc (count - (r + 1)) = omega arith in
          inv.asked
          ∙ ap
          (λ (m : ℕ). checkpoints_question mark n (eqb r 0) (both_before n j first r sent received) m (list_from s next)) more
          ∙ checkpoints_both n (eqb r 0) (row_before n j first r sent)
          (row_before n j first r received) (list_from s next) (count - (r + 1))
          (length_before (eqb r 0) n j ((first + r) * 16) sent sent_fits)
          ∙ ap (λ (z : Bool). counters_question mark z (row_before n j first r sent) (list_from s next) then after_sent) (sym asks)
          ∙ ap (λ (q : ℕ). q then after_sent) (sym did.asked)

      refused : (answer : Result ℕ Question) {e : Question} (sent₁ received₁ : List ℕ) → answer ≡ Err e
          → number e ≡ process_question mark n count (list_from s at)
          → CheckpointsTaken n j first count s at answer sent₀ received₀ sent₁ received₁
      refused answer sent₁ received₁ er is =
          record {
            asked = ap failed er ∙ is;
            rest = λ _ w. absurd (gives_none er w);
            sent_read = λ _ w. absurd (gives_none er w);
            received_read = λ _ w. absurd (gives_none er w);
          }

      pub sent_refused : (answer : Result ℕ Question) {e : Question} → one ≡ Err e → answer ≡ Err e
          → CheckpointsTaken n j first count s at answer sent₀ received₀ sent' received
      sent_refused answer z er = refused answer sent' received er (sym (of_sent ∙ then_refused _ _ (fails z) ∙ ap failed z))

      module _ (half : ℕ) (z : one ≡ Ok half) (zeros' : Bool) (asks' : zeros' ≡ received_zeros (eqb r 0)) (two : Result ℕ Question) (received' : List ℕ)
          (did' : RowTaken (eqb r 0) zeros' n j ((first + r) * 16) s half two received received') where
        middle : list_from s half ≡ drop (n - 1) (list_from s next)
        middle = ap (λ (ns : Numbers). ns.found) (did.rest half z)

        of_received : process_question mark n count (list_from s at) ≡ (failed two then λ _. question_after n (count - (r + 1)) (list_from s next))
        unfolding after_sent
        of_received =
            of_sent ∙ then_passed _ _ (ap failed z)
            ∙ ap
            (λ (q : ℕ). q then λ _. question_after n (count - (r + 1)) (list_from s next))
            (sym (did'.asked ∙ ap₂ (λ (z : Bool) (vs : List ℕ). counters_question mark z (row_before n j first r received) vs) asks' middle))

        pub received_refused : (answer : Result ℕ Question) {e : Question} → two ≡ Err e → answer ≡ Err e
            → CheckpointsTaken n j first count s at answer sent₀ received₀ sent' received'
        received_refused answer y er = refused answer sent' received' er (sym (of_received ∙ then_refused _ _ (fails y) ∙ ap failed y))

        -- a checkpoint more
        module _ (after : ℕ) (y : two ≡ Ok after) where
          on : numbers_from s after ≡ numbers_after (width n) (numbers_from s next)
          on =
              let both : n - 1 + (n - 1) ≡ width n = omega arith in
              did'.rest after y ∙ ap (numbers_after (n - 1)) (did.rest half z) ∙ after_after (n - 1) (n - 1) (numbers_from s next)
              ∙ ap (λ (k : ℕ). numbers_after k (numbers_from s next)) both

          left : list_from s after ≡ drop (width n) (list_from s next)
          left = ap (λ (ns : Numbers). ns.found) on

          -- the rows just put are those before the next
          before_now : both_before n j first (r + 1) sent' received' ≡ take (width n) (list_from s next)
          before_now =
              let later : eqb (r + 1) 0 ≡ false = ne_eqb (r + 1) 0 (λ e. omega arith) in
              let place : (first + (r + 1)) * 16 ≡ (first + r + 1) * 16 = omega arith in
              let both : n - 1 + (n - 1) ≡ width n = omega arith in
              ap₂ (λ (o : Bool) (k : ℕ). counters_before o n j k sent' ++ counters_before o n j k received') later place
              ∙ ap₂ (λ (a b : List ℕ). a ++ b) (row_next (eqb r 0) zeros n j (first + r) sent sent' s next one sent_fits did half z)
              (row_next (eqb r 0) zeros' n j (first + r) received received' s half two received_fits did' after y ∙ ap (take (n - 1)) middle)
              ∙ sym (take-add (n - 1) (n - 1) (list_from s next))
              ∙ ap (λ (k : ℕ). take k (list_from s next)) both

          pub passed_more : Passed n j first count s at sent₀ received₀ sent' received' after (r + 1)
          passed_more =
              let vs : List ℕ = list_from s next in
              let sent_half : take (n - 1) (take (width n) vs) ≡ take (n - 1) vs = take-take (n - 1) (width n) vs (omega arith) in
              let both : width n ≡ n - 1 + (n - 1) = omega arith in
              let received_half : drop (n - 1) (take (width n) vs) ≡ take (n - 1) (list_from s half) =
              ap (λ (k : ℕ). drop (n - 1) (take k vs)) both ∙ drop_take (n - 1) (n - 1) vs ∙ ap (take (n - 1)) (sym middle) in
              let places : r * width n + width n ≡ (r + 1) * width n = rw (add-one r) (sym (suc-mul r (width n))) in
              let later : eqb (r + 1) 0 ≡ false = ne_eqb (r + 1) 0 (λ e. omega arith) in
              record {
                within = omega arith;
                sent_rows =
                    rw left
                    (rows_more _ _ _ _ _ _ _ _ _ _ inv.sent_rows (take (n - 1) vs) sent' h sent_half (row_short (eqb r 0) zeros n j (first + r) sent sent' s next one sent_fits did half z) (did.read half z));
                received_rows =
                    rw left
                    (rows_more _ _ _ _ _ _ _ _ _ _ inv.received_rows (take (n - 1) (list_from s half)) received' h received_half (row_short (eqb r 0) zeros' n j (first + r) received received' s half two received_fits did' after y) (did'.read after y));
                rest = on ∙ ap (numbers_after (width n)) inv.rest ∙ after_after (r * width n) (width n) (numbers_from s at)
                    ∙ ap (λ (k : ℕ). numbers_after k (numbers_from s at)) places;
                asked = of_received ∙ then_passed _ _ (ap failed y)
                    ∙ ap₂ (λ (bs vs' : List ℕ). checkpoints_question mark n false bs (count - (r + 1)) vs') (sym before_now) (sym left)
                    ∙ ap
                    (λ (o : Bool). checkpoints_question mark n o (both_before n j first (r + 1) sent' received') (count - (r + 1)) (list_from s after)) (sym later);
              }

  -- all are taken
  pub passed_ended : count ≤ r → CheckpointsTaken n j first count s at (Ok next) sent₀ received₀ sent received
  passed_ended h =
      let all : r ≡ count = omega (arith, inv.within) in
      let none : count - r ≡ 0 = omega arith in
      record {
        asked = sym
            (inv.asked ∙ ap (λ (m : ℕ). checkpoints_question mark n (eqb r 0) (both_before n j first r sent received) m (list_from s next)) none
            ∙ checkpoints_none n (eqb r 0) (both_before n j first r sent received) (list_from s next));
        rest = λ _ w. ap (numbers_from s) (sym (same_value w)) ∙ inv.rest ∙ ap (λ (m : ℕ). numbers_after (m * width n) (numbers_from s at)) all;
        sent_read = λ _ _. rows_ended _ _ _ _ _ _ _ _ _ _ inv.sent_rows h;
        received_read = λ _ _. rows_ended _ _ _ _ _ _ _ _ _ _ inv.received_rows h;
      }
