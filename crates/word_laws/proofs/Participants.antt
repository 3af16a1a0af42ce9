-- A participant's state: there and back.
use mathlib.Core.Path.{◌≡◌, refl, sym, ap, subst, ◌∙◌}
use mathlib.Core.Bool.{true}
use mathlib.Core.List.{List, ◌++◌}
use Prim.Native.Nat.{ℕ, zero, suc, ◌+◌, ◌<◌}
use native.Mathlib.Nat.{add-zero}
use native.Mathlib.Omega.{arith}
use borrow.Author.Tests.{ltb-true, lt-ltb}
use lib.Dec.{ltb}
use lib.ListN.{length, length-append}
use Rattle.book.specs.Bounds.{most_processes}
use Rattle.lists.proofs.Tests.{and_both, both_and}
use Rattle.lists.specs.Over.{tab_from}
use Rattle.lists.proofs.Over.{length_tab}
use Rattle.consistency.specs.Known.{counters}
use Rattle.participant.specs.declared.Participant.{Participant}
use Rattle.participant.specs.declared.Stage.{Stage}
use Rattle.participant.specs.declared.Stage.TheVariants.{Before, Searching, Ended}
use Rattle.words.specs.Words.{word, all_below, counter_bound, count_words}
use Rattle.words.specs.Participant.{process_at, initiator_at, purpose_at, stage_at, candidate_at, row_at, column_at, participant_length, stage_word, stage_in, participant_head, participant_words, participant_decodes, participant_from, participant_in}
use Rattle.word_laws.specs.Values.{IsParticipant}
use Rattle.word_laws.specs.Statements.{ParticipantBack, ParticipantForm}
use Rattle.word_laws.proofs.Lying.{Lies, lies_self, lies_all, lies_first, lies_second, lies_both, lies_there}
use Rattle.word_laws.proofs.Below.{Below, below_in, below_out, below_first, below_second, below_both}
use Rattle.word_laws.proofs.Counters.{counts_back, counts_below, counts_form}

-- ---- stages

stage_back : (s : Stage) → stage_in (stage_word s) ≡ s
stage_back Before = refl
stage_back Searching = refl
stage_back Ended = refl

stage_few : (s : Stage) → stage_word s < 3
stage_few Before = omega arith
stage_few Searching = omega arith
stage_few Ended = omega arith

stage_form : (w : ℕ) → w < 3 → stage_word (stage_in w) ≡ w
stage_form zero h = refl
stage_form (suc zero) h = refl
stage_form (suc (suc w)) h = omega arith

-- ---- the parts

abbrev row_words : Participant → List ℕ
row_words state = count_words most_processes state.row

abbrev column_words : Participant → List ℕ
column_words state = count_words most_processes state.column

pub record Parts (words : List ℕ) (at : ℕ) (state : Participant) : Type 0 where
  pub first : Lies words at (participant_head state)
  pub row : Lies words (at + row_at) (row_words state)
  pub column : Lies words (at + column_at) (column_words state)

module _ (state : Participant) where
  abbrev counted : List ℕ
  counted = row_words state ++ column_words state

  pub participant_length_lem : length (participant_words state) ≡ participant_length
  unfolding participant_words
  participant_length_lem =
      omega (
        arith,
        length-append (participant_head state) counted,
        length-append (row_words state) (column_words state),
        length_tab most_processes (counters state.row),
        length_tab most_processes (counters state.column),
      )

  module _ (words : List ℕ) (at : ℕ) where
    seam : at + column_at ≡ at + row_at + length (row_words state)
    seam = omega (arith, length_tab most_processes (counters state.row))

    pub parts_in : Lies words at (participant_words state) → Parts words at state
    unfolding participant_words
    parts_in lies =
        let rest : Lies words (at + row_at) counted = lies_second (participant_head state) counted (at + row_at) refl lies in
        record {
          first = lies_first (participant_head state) counted (at + row_at) refl lies;
          row = lies_first (row_words state) (column_words state) (at + column_at) seam rest;
          column = lies_second (row_words state) (column_words state) (at + column_at) seam rest;
        }

    parts_out : Parts words at state → Lies words at (participant_words state)
    unfolding participant_words
    parts_out parts =
        lies_both (participant_head state) counted (at + row_at) refl parts.first
        (lies_both (row_words state) (column_words state) (at + column_at) seam parts.row parts.column)

-- ---- there and back, at a place

module _ {words : List ℕ} {at : ℕ} {state : Participant} (is : IsParticipant state) (lies : Lies words at (participant_words state)) where
  parts : Parts words at state
  parts = parts_in state words at lies

  pub participant_at : participant_from (word words at) words at ≡ state
  unfolding participant_from
  participant_at =
      let n : word words at ≡ state.n = ap (word words) (sym (add-zero at)) ∙ parts.first.each 0 (omega arith) in
      rw (
        n,
        parts.first.each process_at (omega arith),
        parts.first.each initiator_at (omega arith),
        parts.first.each purpose_at (omega arith),
        parts.first.each stage_at (omega arith),
        stage_back state.stage,
        parts.first.each candidate_at (omega arith),
        counts_back is.row parts.row,
        counts_back is.column parts.column,
      )

  pub participant_decodes_lem : participant_decodes words at ≡ true
  unfolding participant_decodes
  participant_decodes_lem =
      let stage : word words (at + stage_at) < 3 = subst (λ (w : ℕ). w < 3) (sym (parts.first.each stage_at (omega arith))) (stage_few state.stage) in
      both_and (ltb (word words (at + stage_at)) 3) (all_below counter_bound words (at + row_at) (most_processes + most_processes)) (lt-ltb (word words (at + stage_at)) 3 stage)
      (below_out (below_both most_processes most_processes {next = at + column_at} (omega arith) (counts_below is.row parts.row) (counts_below is.column parts.column)))

pub participant_lies : (words : List ℕ) (at : ℕ) → participant_decodes words at ≡ true
    → Lies words at (participant_words (participant_from (word words at) words at))
unfolding participant_decodes participant_from tab_from
participant_lies words at decodes =
    let tests = and_both (ltb (word words (at + stage_at)) 3) (all_below counter_bound words (at + row_at) (most_processes + most_processes)) decodes in
    let stage = stage_form (word words (at + stage_at)) (ltb-true (word words (at + stage_at)) 3 tests.0) in
    let below : Below counter_bound words (at + row_at) (most_processes + most_processes) = below_in tests.1 in
    parts_out (participant_from (word words at) words at) words at
    (record {
      first = rw stage (rw (add-zero at) at (lies_there words at row_at));
      row = counts_form (below_first most_processes most_processes {next = at + column_at} (omega arith) below);
      column = counts_form (below_second most_processes most_processes (omega arith) below);
    })

-- ---- a slice

decoded_is : (words : List ℕ) → participant_decodes words 0 ≡ true → participant_in words ≡ participant_from (word words 0) words 0
unfolding participant_in
decoded_is words decoded = rw decoded

pub participant_back : ParticipantBack
participant_back state is =
    let words : List ℕ = participant_words state in
    let lies : Lies words 0 words = lies_self words in
    decoded_is words (participant_decodes_lem is lies) ∙ participant_at is lies

pub participant_form : ParticipantForm
participant_form words long decoded =
    ap participant_words (decoded_is words decoded)
    ∙ lies_all (participant_lies words 0 decoded) (long ∙ sym (participant_length_lem (participant_from (word words 0) words 0)))
