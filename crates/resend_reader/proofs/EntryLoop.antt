-- The loop over entries, pass by pass.
use Rattle.std.specs.Prelude.{Option, Some, None}
use mathlib.Core.Path.{◌≡◌, refl, sym, ap, ◌∙◌}
use mathlib.Core.List.{List, [], ◌∷◌}
use Prim.Native.Nat.{ℕ, zero, suc, ◌+◌, ◌-◌, ◌≤◌, ◌<◌}
use native.Mathlib.Omega.{arith}
use lib.ListN.{length, set, length-set}
use lib.Dec.{eqb}
use borrow.Author.Tests.{eq-eqb, ne_eqb}
use Rattle.varint.specs.Number.{read_number}
use Rattle.varint.specs.Sequence.{Numbers}
use Rattle.varint.proofs.Reading.{read_past}
use Rattle.varint.proofs.Sequence.{numbers_none, numbers_more}
use Rattle.book.specs.declared.Count.{Count}
use Rattle.book.specs.Bounds.{groups, largest}
use Rattle.book.specs.InTurn.{◌then◌}
use Rattle.book.specs.Read.{numbers_from}
use Rattle.book.proofs.Questions.{then_passed, then_refused, ask_yes, ask_no}
use Rattle.restart.specs.declared.Resend.{Resend}
use Rattle.restart.specs.Calls.{no_resend}
use Rattle.resend.specs.Layout.{channel_at, with_entry, entries_in}
use Rattle.resend.specs.Questions.{entry_question, entries_question}
use Rattle.resend.proofs.Entries.{asked_done, asked_short, asked_more, taken_none, taken_more}
use Rattle.resend_reader.specs.declared.Entry.{Entry}
use Rattle.resend_reader.specs.Parts.{EntryFound, question_from, entries_from}

-- the question that so many entries fail, after one of the channel from s to r, of the numbers found, in bytes so long
abbrev question_of : ℕ → ℕ → ℕ → ℕ → ℕ → Numbers → ℕ
question_of long n s r count ns = entries_question n s r count (eqb ns.stop long) ns.found

-- k entries are read: what is left to ask is asked of the numbers that follow, and what they say goes into the list
pub record Sofar (n : ℕ) (s : List ℕ) (at count : ℕ) (first last : List Count) (sender receiver next k : ℕ) : Type 0 where
  pub within : k ≤ count
  pub long_first : length first ≡ 256
  pub long_last : length last ≡ 256
  pub asked : question_from n s at count ≡ question_of (length s) n sender receiver (count - k) (numbers_from s next)
  pub carried :
      entries_from s at ≡ entries_in (record { first = first; last = last }) (numbers_from s next).found

pub sofar_begun : (n : ℕ) (s : List ℕ) (at count : ℕ) → Sofar n s at count no_resend.first no_resend.last 0 0 at 0
sofar_begun n s at count =
    let all : count - 0 ≡ count = omega arith in
    record {
      within = omega arith;
      long_first = refl;
      long_last = refl;
      asked = ap (λ (m : ℕ). question_of (length s) n 0 0 m (numbers_from s at)) (sym all);
      carried = refl;
    }

module _ (n : ℕ) (s : List ℕ) (at count : ℕ) (first last : List Count) (sender receiver next k : ℕ)
    (inv : Sofar n s at count first last sender receiver next k) where
  module _ (h : k < count) where
    one_more_lem : count - k ≡ suc (count - (k + 1))
    one_more_lem = omega arith

    left_asked : (ns : Numbers) → numbers_from s next ≡ ns
        → question_from n s at count ≡ question_of (length s) n sender receiver (suc (count - (k + 1))) ns
    left_asked ns e =
        inv.asked ∙ ap (λ (m : ℕ). question_of (length s) n sender receiver m (numbers_from s next)) one_more_lem
        ∙ ap (question_of (length s) n sender receiver (suc (count - (k + 1)))) e

    -- there are not four numbers
    pub sofar_short : length (numbers_from s next).found < 4 → question_from n s at count ≡ 3
    sofar_short few =
        left_asked (numbers_from s next) refl
        ∙ asked_short n sender receiver (eqb (numbers_from s next).stop (length s)) (count - (k + 1)) (numbers_from s next).found few

    module _ (entry : Entry) (after : ℕ) (found : EntryFound s next (Some (entry, after))) where
      step : question_from n s at count
          ≡ (entry_question n sender receiver entry.sender entry.receiver entry.first entry.last then λ _.
          question_of (length s) n entry.sender entry.receiver (count - (k + 1)) (numbers_from s after))
      step =
          left_asked _ found.0
          ∙ asked_more n sender receiver (eqb (numbers_from s after).stop (length s)) (count - (k + 1)) entry.sender entry.receiver
          entry.first entry.last (numbers_from s after).found

      module _ (question : ℕ)
          (told : question ≡ entry_question n sender receiver entry.sender entry.receiver entry.first entry.last) where
        -- the entry fails a question
        pub sofar_refused : (question ≡ 0 → ⊥) → question_from n s at count ≡ question
        sofar_refused some = step ∙ then_refused _ _ (λ z. some (told ∙ z)) ∙ sym told

        -- it passes
        pub sofar_more : question ≡ 0 → (a b : Count) → a.0 ≡ entry.first → b.0 ≡ entry.last
            → Sofar n s at count (set first (channel_at entry.sender entry.receiver) a)
            (set last (channel_at entry.sender entry.receiver) b) entry.sender entry.receiver after (k + 1)
        sofar_more passed a b is_first is_last =
            let list : Resend = record { first = first; last = last } in
            let left : List ℕ = (numbers_from s after).found in
            record {
              within = omega arith;
              long_first = simp length-set inv.long_first;
              long_last = simp length-set inv.long_last;
              asked = step ∙ then_passed _ _ (sym told ∙ passed);
              carried = inv.carried ∙ ap (λ (ns : Numbers). entries_in list ns.found) found.0
                  ∙ taken_more list entry.sender entry.receiver entry.first entry.last left
                  ∙ ap (λ (v : ℕ). entries_in (with_entry list entry.sender entry.receiver v entry.last) left) (sym is_first)
                  ∙ ap (λ (v : ℕ). entries_in (with_entry list entry.sender entry.receiver a.0 v) left) (sym is_last);
            }

  -- ---- all are read

  module _ (h : count ≤ k) where
    end_asked : (ns : Numbers) → numbers_from s next ≡ ns
        → question_from n s at count ≡ question_of (length s) n sender receiver zero ns
    end_asked ns e =
        let none_left : count - k ≡ zero = omega arith in
        inv.asked ∙ ap (λ (m : ℕ). question_of (length s) n sender receiver m (numbers_from s next)) none_left
        ∙ ap (question_of (length s) n sender receiver zero) e

    -- bytes are left over: a number, or none
    pub sofar_over : (next ≡ length s → ⊥) → question_from n s at count ≡ 21
    sofar_over over = go (read_number groups largest s next) refl
      where
        go : (r : Option (ℕ × ℕ)) → read_number groups largest s next ≡ r → question_from n s at count ≡ 21
        go None e =
            end_asked (record { found = []; stop = next }) (numbers_none groups largest s next e)
            ∙ asked_done n sender receiver (eqb next (length s)) [] ∙ ask_no 21 (eqb next (length s)) (ne_eqb next (length s) over)
        go (Some (v, after)) e =
            end_asked (record { found = v ∷ (numbers_from s after).found; stop = (numbers_from s after).stop }) (numbers_more groups largest s next v after e)
            ∙ asked_done n sender receiver (eqb (numbers_from s after).stop (length s)) (v ∷ (numbers_from s after).found)

    -- none are
    pub sofar_ended : next ≡ length s
        → (question_from n s at count ≡ 0) × ◌≡◌ {A = Resend} (record { first = first; last = last }) (entries_from s at)
    sofar_ended ends =
        let none : numbers_from s next ≡ record { found = []; stop = next }
        = numbers_none groups largest s next (read_past groups largest s next (omega arith)) in
        let passed : question_from n s at count ≡ 0
        = end_asked (record { found = []; stop = next }) none ∙ asked_done n sender receiver (eqb next (length s)) []
        ∙ ask_yes 21 (eqb next (length s)) (eq-eqb next (length s) ends) in
        let whole : entries_from s at ≡ record { first = first; last = last }
        = inv.carried ∙ ap (λ (ns : Numbers). entries_in (record { first = first; last = last }) ns.found) none
        ∙ taken_none (record { first = first; last = last }) in
        (passed, sym whole)
