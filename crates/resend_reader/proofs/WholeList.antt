-- A list read whole: n, the leading count, and the entries.
use Rattle.std.specs.Prelude.{Result, Some, None}
use mathlib.Core.Path.{◌≡◌, refl, sym, ap, ◌∙◌}
use mathlib.Core.Bool.{false, ◌&&◌}
use mathlib.Core.List.{List}
use Prim.Native.Nat.{ℕ, zero, suc, ◌≤◌, ◌<◌}
use lib.ListN.{length}
use lib.Dec.{leb, eqb}
use borrow.Author.Tests.{le-leb, lt-leb}
use Rattle.varint.specs.Number.{read_number}
use Rattle.varint.specs.Sequence.{Numbers}
use Rattle.varint.proofs.Sequence.{numbers_none, numbers_more}
use Rattle.lists.proofs.Tests.{both_and, and_first, and_second}
use Rattle.book.specs.Bounds.{groups, largest, most_processes}
use Rattle.book.specs.InTurn.{answer_with, unless_refused}
use Rattle.book.specs.Read.{numbers_found, end_with_bytes}
use Rattle.restart.specs.declared.Resend.{Resend}
use Rattle.restart.specs.Calls.{no_resend}
use Rattle.resend.specs.Layout.{list_in}
use Rattle.resend.specs.Questions.{counted_question, list_question}
use Rattle.resend.specs.Calls.{list_read}
use Rattle.resend_reader.specs.Parts.{question_from, entries_from}

-- what would stand beside a refusal is not answered
kept_beside : {A : Type 0} (q : ℕ) (before now : A) → answer_with q now ≡ answer_with q (unless_refused q before now)
unfolding answer_with
kept_beside zero before now = refl
kept_beside (suc q) before now = refl

module _ (n : ℕ) (bytes : List ℕ) where
  -- ---- n

  size_fails : (leb 1 n && leb n most_processes) ≡ false → list_question n bytes ≡ 4
  unfolding list_question
  size_fails e = rw e

  pub no_process : n < 1 → list_question n bytes ≡ 4
  no_process h = size_fails (and_first (leb 1 n) (leb n most_processes) (lt-leb 1 n h))

  pub many_processes : most_processes < n → list_question n bytes ≡ 4
  many_processes h = size_fails (and_second (leb 1 n) (leb n most_processes) (lt-leb n most_processes h))

  module _ (some : 1 ≤ n) (most : n ≤ most_processes) where
    count_asked : list_question n bytes ≡ counted_question n (end_with_bytes bytes) (numbers_found bytes)
    unfolding list_question
    count_asked = rw (both_and (leb 1 n) (leb n most_processes) (le-leb 1 n some) (le-leb n most_processes most))

    -- ---- the count

    pub no_count : read_number groups largest bytes 0 ≡ None → list_question n bytes ≡ 3
    no_count none =
        count_asked ∙ ap (λ (ns : Numbers). counted_question n (eqb ns.stop (length bytes)) ns.found) (numbers_none groups largest bytes 0 none)

    -- what is asked and read of the entries is what is to be asked and read
    pub entries_asked : (count first : ℕ) → read_number groups largest bytes 0 ≡ Some (count, first)
        → list_question n bytes ≡ question_from n bytes first count
    entries_asked count first e =
        count_asked ∙ ap (λ (ns : Numbers). counted_question n (eqb ns.stop (length bytes)) ns.found) (numbers_more groups largest bytes 0 count first e)

    pub whole_found : (count first : ℕ) → read_number groups largest bytes 0 ≡ Some (count, first)
        → {r : Result Resend ℕ} → r ≡ answer_with (question_from n bytes first count) (entries_from bytes first)
        → r ≡ answer_with (list_question n bytes) (list_read n bytes)
    unfolding list_read
    whole_found count first e {r} entries =
        let taken : list_in (numbers_found bytes) ≡ entries_from bytes first
        = ap (λ (ns : Numbers). list_in ns.found) (numbers_more groups largest bytes 0 count first e) in
        entries ∙ sym (ap (answer_with (question_from n bytes first count)) taken)
        ∙ sym (ap (λ (q : ℕ). answer_with q (list_in (numbers_found bytes))) (entries_asked count first e))
        ∙ kept_beside (list_question n bytes) no_resend (list_in (numbers_found bytes))
