-- The turns of the loop over a book's processes.
use Rattle.std.specs.Prelude.{Option, Some, None, Result, Ok, Err}
use mathlib.Core.Path.{◌≡◌, refl, sym, ap, ap₂, ◌∙◌}
use mathlib.Core.Bool.{Bool, true, false}
use mathlib.Core.List.{List, [], ◌∷◌, ◌++◌, append-nil}
use Prim.Native.Nat.{ℕ, suc, ◌+◌, ◌*◌, ◌-◌, ◌≤◌, ◌<◌}
use native.Mathlib.Omega.{arith}
use borrow.Author.Tests.{eq-eqb, ne_eqb}
use lib.ListN.{length, take, drop, set, replicate, length-append, length-replicate}
use lib.Seq.{set_at, append_snoc}
use lib.Dec.{eqb}
use Rattle.varint.specs.Number.{read_number}
use Rattle.varint.specs.Sequence.{Numbers, numbers_after}
use Rattle.varint.proofs.Reading.{read_past}
use Rattle.varint.proofs.Sequence.{numbers_none, numbers_more}
use Rattle.book.specs.declared.Shape.{Shape}
use Rattle.book.specs.declared.Question.{Question}
use Rattle.book.specs.declared.Question.TheVariants.{Unused}
use Rattle.book.specs.Starts.{RowStart}
use Rattle.book.specs.Bounds.{groups, largest, mark}
use Rattle.book.specs.Layout.{width, processes_in}
use Rattle.book.specs.Tables.{padded, counts_of, shape_of}
use Rattle.book.specs.InTurn.{◌then◌, ask}
use Rattle.book.specs.Questions.{count_question, nothing_follows}
use Rattle.book.specs.Along.{process_question, processes_question}
use Rattle.book.proofs.Rows.{length_in}
use Rattle.book.proofs.Starts.{starts_carried, start_stored}
use Rattle.book.proofs.Questions.{then_passed, then_refused, then_assoc}
use Rattle.book.specs.Read.{numbers_from}
use Rattle.reader.specs.Parts.{failed, whole_from, empty_table, next_process, RowsClear, ProcessTaken, ProcessesTaken, processes_after}
use Rattle.reader.proofs.Answers.{fails, taken_refused, taken_passed}
use Rattle.reader.proofs.BookRows.{Rows, rows_begun, rows_length, rows_clear, rows_more, rows_ended, sent_short, received_short}

-- the questions of the next process, then those of the ones after it
processes_next : (n left sum : ℕ) (ended : Bool) (vs : List ℕ) (c : ℕ) → vs ≡ c ∷ drop 1 vs
    → processes_question mark n (suc left) sum ended vs
    ≡ (next_process n sum vs then λ _. processes_question mark n left (sum + c) ended (drop (suc (c * width n)) vs))
unfolding processes_question
processes_next n left sum ended [] c h = absurd (omega (arith, ap length h))
processes_next n left sum ended (v ∷ vs) c h =
    let e : v ≡ c = cc in
    rw e
    (sym (then_assoc (count_question sum c) (λ _. process_question mark n c vs)
    (λ _. processes_question mark n left (sum + c) ended (drop (c * width n) vs))))

-- where the next process fails a question, that is the answer
processes_refused : (n left sum : ℕ) (ended : Bool) (vs : List ℕ) (q : ℕ) → q ≡ next_process n sum vs → (q ≡ 0 → ⊥)
    → q ≡ processes_question mark n (suc left) sum ended vs
unfolding processes_question
processes_refused n left sum ended [] q e z = e
processes_refused n left sum ended (v ∷ vs) q e z =
    let later : Unit {0} → ℕ = λ _. processes_question mark n left (sum + v) ended (drop (v * width n) vs) in
    e
    ∙ sym (sym (then_assoc (count_question sum v) (λ _. process_question mark n v vs) later)
    ∙ then_refused (next_process n sum (v ∷ vs)) later (λ w. z (e ∙ w)))

processes_none : (n sum : ℕ) (ended : Bool) (vs : List ℕ) → processes_question mark n 0 sum ended vs ≡ ask 9 (nothing_follows ended vs)
unfolding processes_question
processes_none n sum ended vs = refl

counts_next : (left w : ℕ) (vs : List ℕ) (c : ℕ) → vs ≡ c ∷ drop 1 vs
    → counts_of (processes_in (suc left) w vs) ≡ c ∷ counts_of (processes_in left w (drop (suc (c * w)) vs))
unfolding processes_in counts_of
counts_next left w [] c h = absurd (omega (arith, ap length h))
counts_next left w (v ∷ vs) c h =
    let e : v ≡ c = cc in
    rw e (ap (λ (x : ℕ). x ∷ counts_of (processes_in left w (drop (c * w) vs))) (length_in c w vs))

counts_none : (w : ℕ) (vs : List ℕ) → counts_of (processes_in 0 w vs) ≡ []
unfolding processes_in counts_of
counts_none w vs = refl

-- the first question that fails of the n processes that follow a place
abbrev whole : ℕ → List ℕ → ℕ → ℕ
whole n s at = processes_question mark n n 0 (whole_from s at) (numbers_from s at).found

-- j processes are taken: their counts stand first among the sixteen, and their rows in both tables; `sum` is the start carried to
-- the next
pub record Met (n : ℕ) (s : List ℕ) (at : ℕ) (sent received counts : List ℕ) (sum next j : ℕ) : Type 0 where
  pub within : j ≤ n
  pub few : sum ≤ 256
  pub start : RowStart counts j sum
  pub done : List ℕ
  pub passed : length done ≡ j
  pub present : counts ≡ done ++ replicate (16 - j) 0
  pub ended : whole_from s at ≡ whole_from s next
  pub asked : whole n s at ≡ processes_question mark n (n - j) sum (whole_from s next) (numbers_from s next).found
  pub listed : counts_of (processes_after n s at) ≡ done ++ counts_of (processes_in (n - j) (width n) (numbers_from s next).found)
  pub sent_rows : Rows (take (n - 1)) n sum j (numbers_from s at).found (numbers_from s next).found sent
  pub received_rows : Rows (drop (n - 1)) n sum j (numbers_from s at).found (numbers_from s next).found received

pub met_begun : (n : ℕ) (s : List ℕ) (at : ℕ) (sent received : List ℕ) → sent ≡ empty_table → received ≡ empty_table
    → Met n s at sent received (replicate 16 0) 0 at 0
met_begun n s at sent received e e' =
    let all : n - 0 ≡ n = omega arith in
    record {
      within = omega arith;
      few = omega arith;
      start = (starts_carried (replicate 16 0)).begins;
      done = [];
      passed = refl;
      present = refl;
      ended = refl;
      asked = rw all;
      listed = rw all;
      sent_rows = rows_begun (take (n - 1)) n (numbers_from s at).found sent e;
      received_rows = rows_begun (drop (n - 1)) n (numbers_from s at).found received e';
    }

module _ (n : ℕ) (s : List ℕ) (at : ℕ) (sent received counts : List ℕ) (sum next j : ℕ) (inv : Met n s at sent received counts sum next j) where
  pub met_sent : length sent ≡ 4096
  met_sent = rows_length _ _ _ _ _ _ _ inv.sent_rows

  pub met_received : length received ≡ 4096
  met_received = rows_length _ _ _ _ _ _ _ inv.received_rows

  module _ (h : j < n) (most : n ≤ 16) where
    pub sent_clear : RowsClear n j sum 0 sent
    sent_clear = rows_clear _ _ _ _ _ _ _ inv.sent_rows h most inv.few

    pub received_clear : RowsClear n j sum 0 received
    received_clear = rows_clear _ _ _ _ _ _ _ inv.received_rows h most
        inv.few

    module _ (r : Result (ℕ × ℕ) Question) (sent' received' : List ℕ) (did : ProcessTaken n j sum s next r sent received sent' received') where
      counts_long : j < length counts
      counts_long = omega (arith, ap length inv.present ∙ length-append inv.done (replicate (16 - j) 0), inv.passed, length-replicate {A = ℕ} (16 - j) 0)

      more : n - j ≡ suc (n - (j + 1))
      more = omega arith

      pub met_refused : (a : Result Shape Question) {e : Question} → r ≡ Err e → a ≡ Err e → ProcessesTaken n s at a sent' received'
      met_refused a {e} was ea =
          taken_refused _ _ _ _ sent' received' a e ea
          (sym (ap failed was)
          ∙ processes_refused n (n - (j + 1)) sum (whole_from s next) (numbers_from s next).found (failed r) did.asked (fails was)
          ∙ sym (inv.asked ∙ ap (λ (m : ℕ). processes_question mark n m sum (whole_from s next) (numbers_from s next).found) more))

      pub met_more : (c after : ℕ) → r ≡ Ok (c, after) → Met n s at sent' received' (set counts j c) (sum + c) after (j + 1)
      met_more c after z =
          let go : numbers_from s after ≡ numbers_after (suc (c * width n)) (numbers_from s next) = did.rest c after z in
          let on : whole_from s next ≡ whole_from s after = ap (λ (ns : Numbers). eqb ns.stop (length s)) (sym go) in
          let vs : List ℕ = drop 1 (numbers_from s next).found in
          let left : (numbers_from s after).found ≡ drop (c * width n) vs =
          ap (λ (ns : Numbers). ns.found) go ∙ ap (drop (suc (c * width n))) (did.head c after z) in
          let zeros : replicate {A = ℕ} (16 - j) 0 ≡ 0 ∷ replicate (16 - (j + 1)) 0 =
          let e : 16 - j ≡ suc (16 - (j + 1)) = omega arith in rw e in
          record {
            within = omega arith;
            few = (did.within c after z).1;
            start = start_stored counts j sum c counts_long inv.start;
            done = inv.done ++ (c ∷ []);
            passed = length-append inv.done (c ∷ []) ∙ ap (λ (m : ℕ). m + 1) inv.passed;
            present = ap (λ (l : List ℕ). set l j c) (inv.present ∙ ap (λ (l : List ℕ). inv.done ++ l) zeros)
                ∙ set_at inv.done 0 (replicate (16 - (j + 1)) 0) c j inv.passed ∙ sym (append_snoc inv.done c (replicate (16 - (j + 1)) 0));
            ended = inv.ended ∙ on;
            asked = inv.asked ∙ ap (λ (m : ℕ). processes_question mark n m sum (whole_from s next) (numbers_from s next).found) more
                ∙ processes_next n (n - (j + 1)) sum (whole_from s next) (numbers_from s next).found c (did.head c after z)
                ∙ then_passed _ _ (sym did.asked ∙ ap failed z)
                ∙ ap₂ (λ (e : Bool) (ns : Numbers). processes_question mark n (n - (j + 1)) (sum + c) e ns.found) on (sym go);
            listed = inv.listed ∙ ap (λ (m : ℕ). inv.done ++ counts_of (processes_in m (width n) (numbers_from s next).found)) more
                ∙ ap (λ (l : List ℕ). inv.done ++ l) (counts_next (n - (j + 1)) (width n) (numbers_from s next).found c (did.head c after z))
                ∙ sym (append_snoc inv.done c _)
                ∙ ap (λ (ns : Numbers). (inv.done ++ (c ∷ [])) ++ counts_of (processes_in (n - (j + 1)) (width n) ns.found)) (sym go);
            sent_rows =
                rw left
                (rows_more _ _ _ _ _ _ _ inv.sent_rows c vs sent' h (did.head c after z) (sent_short n most) (did.enough c after z) (did.sent_read c after z));
            received_rows =
                rw left
                (rows_more _ _ _ _ _ _ _ inv.received_rows c vs received' h (did.head c after z) (received_short n most) (did.enough c after z) (did.received_read c after z));
          }

-- nothing follows exactly where the bytes end
nothing_left : (s : List ℕ) (next : ℕ) → next ≡ length s → nothing_follows (whole_from s next) (numbers_from s next).found ≡ true
nothing_left s next e =
    let none = numbers_none groups largest s next (read_past groups largest s next (omega arith)) in
    ap (λ (ns : Numbers). nothing_follows (eqb ns.stop (length s)) ns.found) none ∙ eq-eqb next (length s) e

something_left : (s : List ℕ) (next : ℕ) → (next ≡ length s → ⊥) → nothing_follows (whole_from s next) (numbers_from s next).found ≡ false
something_left s next z = go (read_number groups largest s next) refl
  where
    go : (r : Option (ℕ × ℕ)) → read_number groups largest s next ≡ r → nothing_follows (whole_from s next) (numbers_from s next).found ≡ false
    go (Some (v, after)) e = ap (λ (ns : Numbers). nothing_follows (eqb ns.stop (length s)) ns.found)
        (numbers_more groups largest s next v after e)
    go None e = ap (λ (ns : Numbers). nothing_follows (eqb ns.stop (length s)) ns.found) (numbers_none groups largest s next e)
        ∙ ne_eqb next (length s) z

module _ (n : ℕ) (s : List ℕ) (at : ℕ) (sent received counts : List ℕ) (sum next j : ℕ) (inv : Met n s at sent received counts sum next j)
    (h : n ≤ j) where
  last : n - j ≡ 0
  last = omega arith

  end : whole n s at ≡ ask 9 (nothing_follows (whole_from s next) (numbers_from s next).found)
  end =
      inv.asked ∙ ap (λ (m : ℕ). processes_question mark n m sum (whole_from s next) (numbers_from s next).found) last
      ∙ processes_none n sum (whole_from s next) (numbers_from s next).found

  pub met_more_follows : (next ≡ length s → ⊥) → ProcessesTaken n s at (Err Unused) sent received
  met_more_follows z = taken_refused _ _ _ _ sent received (Err Unused) Unused refl (sym (end ∙ ap (ask 9) (something_left s next z)))

  shape : ◌≡◌ {A = Shape} (record { n = n; counts = counts }) (shape_of (record { n = n; processes = processes_after n s at }))
  shape =
      let all : counts_of (processes_after n s at) ≡ inv.done =
      inv.listed ∙ ap (λ (m : ℕ). inv.done ++ counts_of (processes_in m (width n) (numbers_from s next).found)) last
      ∙ ap (λ (l : List ℕ). inv.done ++ l) (counts_none (width n) (numbers_from s next).found) ∙ append-nil inv.done in
      let e : counts ≡ padded 16 (counts_of (processes_after n s at)) =
      inv.present ∙ ap (λ (m : ℕ). inv.done ++ replicate (16 - m) 0) (sym inv.passed) ∙ ap (padded 16) (sym all) in
      λ i. record { n = n; counts = e i }

  pub met_ended : next ≡ length s → ProcessesTaken n s at (Ok (record { n = n; counts = counts })) sent received
  met_ended e =
      taken_passed _ _ _ _ sent received (record { n = n; counts = counts }) (end ∙ ap (ask 9) (nothing_left s next e)) shape
      (rows_ended _ _ _ _ _ _ _ inv.sent_rows h inv.few)
      (rows_ended _ _ _ _ _ _ _ inv.received_rows h inv.few)
