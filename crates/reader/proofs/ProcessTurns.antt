-- One process of a book: its count, and its checkpoints.
use Rattle.std.specs.Prelude.{Some, None, Result, Ok, Err}
use mathlib.Core.Path.{◌≡◌, refl, sym, ap, ◌∙◌}
use mathlib.Core.List.{List, ◌∷◌}
use Prim.Native.Nat.{ℕ, suc, ◌+◌, ◌*◌, ◌-◌, ◌≤◌, ◌<◌}
use native.Mathlib.Omega.{arith}
use lib.ListN.{take, drop}
use Rattle.varint.specs.Number.{read_number}
use Rattle.varint.specs.Sequence.{Numbers, numbers_after}
use Rattle.varint.proofs.Sequence.{numbers_none, numbers_more}
use Rattle.book.specs.declared.Question.{Question}
use Rattle.book.specs.declared.Question.TheVariants.{Number, Checkpoints}
use Rattle.book.specs.Bounds.{groups, largest, mark}
use Rattle.book.specs.Numbers.{number}
use Rattle.book.specs.Layout.{width}
use Rattle.book.specs.InTurn.{◌then◌}
use Rattle.book.specs.Questions.{count_question}
use Rattle.book.specs.Along.{process_question}
use Rattle.book.proofs.Asked.{process_long}
use Rattle.book.proofs.Counts.{count_none, count_many, count_given}
use Rattle.book.proofs.Questions.{then_passed, then_refused}
use Rattle.book.specs.Read.{numbers_from}
use Rattle.reader.specs.Parts.{with_rows, next_process, RowsClear, CheckpointsTaken, ProcessTaken, failed}
use Rattle.reader.proofs.Answers.{gives_none, same_value}

-- room for no rows is room for as many as pass question 5
pub rows_room : (n j sum count : ℕ) (table : List ℕ) → RowsClear n j sum 0 table → sum + count ≤ 256 → RowsClear n j sum count table
rows_room n j sum count table fits h =
    record { present = fits.present; most = fits.most; whole = fits.whole; inside = h; clear = fits.clear }

module _ (n j sum : ℕ) (s : List ℕ) (at : ℕ) (sent₀ received₀ sent received : List ℕ) where
  refused : (r : Result (ℕ × ℕ) Question) {e : Question} → r ≡ Err e → number e ≡ next_process n sum (numbers_from s at).found
      → ProcessTaken n j sum s at r sent₀ received₀ sent received
  refused r er is =
      record {
        asked = ap failed er ∙ is;
        head = λ _ _ w. absurd (gives_none er w);
        rest = λ _ _ w. absurd (gives_none er w);
        within = λ _ _ w. absurd (gives_none er w);
        enough = λ _ _ w. absurd (gives_none er w);
        sent_read = λ _ _ w. absurd (gives_none er w);
        received_read = λ _ _ w. absurd (gives_none er w);
      }

  pub process_short : read_number groups largest s at ≡ None → ProcessTaken n j sum s at (Err Number) sent₀ received₀ sent received
  process_short none =
      refused (Err Number) refl (sym (ap (λ (ns : Numbers). next_process n sum ns.found) (numbers_none groups largest s at none)))

  module _ (v next : ℕ) (some : read_number groups largest s at ≡ Some (v, next)) where
    go : numbers_from s at ≡ record { found = v ∷ (numbers_from s next).found; stop = (numbers_from s next).stop }
    go = numbers_more groups largest s at v next some

    turn : next_process n sum (numbers_from s at).found ≡ (count_question sum v then λ _. process_question mark n v (numbers_from s next).found)
    turn = ap (λ (ns : Numbers). next_process n sum ns.found) go

    behind : (numbers_from s next).found ≡ drop 1 (numbers_from s at).found
    behind = sym (ap (λ (ns : Numbers). drop 1 ns.found) go)

    five : count_question sum v ≡ 5 → ProcessTaken n j sum s at (Err Checkpoints) sent₀ received₀ sent received
    five e = refused (Err Checkpoints) refl (sym (turn ∙ then_refused _ _ (λ z. omega (arith, sym e ∙ z)) ∙ e))

    pub process_none : v < 1 → ProcessTaken n j sum s at (Err Checkpoints) sent₀ received₀ sent received
    process_none h = five (count_none sum v h)

    pub process_many : 1 ≤ v → 256 < sum + v → ProcessTaken n j sum s at (Err Checkpoints) sent₀ received₀ sent received
    process_many h k = five (count_many sum v h k)

    module _ (h : 1 ≤ v) (k : sum + v ≤ 256) (of_checkpoints : Result ℕ Question)
        (did : CheckpointsTaken n j sum v s next of_checkpoints sent₀ received₀ sent received) where
      asked : next_process n sum (numbers_from s at).found ≡ failed of_checkpoints
      asked = turn ∙ then_passed _ _ (count_given sum v h k) ∙ sym did.asked

      -- a checkpoint fails a question
      pub process_refused : (r : Result (ℕ × ℕ) Question) {e : Question} → of_checkpoints ≡ Err e → r ≡ Err e
          → ProcessTaken n j sum s at r sent₀ received₀ sent received
      process_refused r was er = refused r er (sym (asked ∙ ap failed was))

      -- none does
      pub process_taken : (after : ℕ) → of_checkpoints ≡ Ok after → ProcessTaken n j sum s at (Ok (v, after)) sent₀ received₀ sent received
      process_taken after was =
          let counted : (c m : ℕ) → ◌≡◌ {A = Result (ℕ × ℕ) Question} (Ok (v, after)) (Ok (c, m)) → v ≡ c
          = λ c m w. ap (λ (p : ℕ × ℕ). p.0) (same_value w) in
          let placed : (c m : ℕ) → ◌≡◌ {A = Result (ℕ × ℕ) Question} (Ok (v, after)) (Ok (c, m)) → after ≡ m
          = λ c m w. ap (λ (p : ℕ × ℕ). p.1) (same_value w) in
          record {
            asked = sym (asked ∙ ap failed was);
            head = λ c m w. rw (← counted c m w) (ap (λ (ns : Numbers). ns.found) go ∙ ap (λ (l : List ℕ). v ∷ l) behind);
            rest = λ c m w. rw (← counted c m w, ← placed c m w) (did.rest after was ∙ ap (numbers_after (suc (v * width n))) (sym go));
            within = λ c m w. rw (← counted c m w) (h, k);
            enough = λ c m w. rw (← counted c m w)
                (rw behind at (process_long mark n v (numbers_from s next).found (sym did.asked ∙ ap failed was)));
            sent_read = λ c m w. rw (← counted c m w)
                (did.sent_read after was ∙ ap (λ (l : List ℕ). with_rows (take (n - 1)) n j sum v l sent₀) behind);
            received_read = λ c m w. rw (← counted c m w)
                (did.received_read after was ∙ ap (λ (l : List ℕ). with_rows (drop (n - 1)) n j sum v l received₀) behind);
          }
