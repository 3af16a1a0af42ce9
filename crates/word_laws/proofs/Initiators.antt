-- An initiator's state: there and back.
use mathlib.Core.Path.{◌≡◌, refl, sym, ap, subst, ◌∙◌}
use mathlib.Core.Bool.{Bool, true, false, ◌&&◌}
use mathlib.Core.List.{List, ◌++◌}
use Prim.Native.Nat.{ℕ, zero, suc, ◌+◌, ◌<◌}
use native.Mathlib.Nat.{add-zero}
use native.Mathlib.Omega.{arith}
use borrow.Author.Tests.{ltb-true, lt-ltb}
use lib.Dec.{ltb}
use lib.ListN.{length, length-append}
use Rattle.book.specs.Bounds.{most_processes}
use Rattle.lists.proofs.Tests.{and_both}
use Rattle.lists.specs.Over.{tab_from}
use Rattle.lists.proofs.Over.{length_tab, get_d_tab, tab_is}
use Rattle.consistency.specs.Known.{counters}
use Rattle.machine.specs.Named.{tally_bound}
use Rattle.machine.specs.Flags.{flag}
use Rattle.initiator.specs.declared.Initiator.{Initiator}
use Rattle.words.specs.Words.{word, all_below, counter_bound, count_words, matrix_length}
use Rattle.words.specs.Initiator.{process_at, purpose_at, ended_at, candidate_at, rounds_at, awaited_at, matrix_at, copy_at, initiator_length, flag_word, flag_words, flag_in, flags_at, initiator_head, initiator_words, initiator_decodes, initiator_from, initiator_in}
use Rattle.word_laws.specs.Values.{IsInitiator}
use Rattle.word_laws.specs.Statements.{InitiatorBack, InitiatorForm}
use Rattle.word_laws.proofs.Lying.{Lies, lies_self, lies_all, lies_first, lies_second, lies_both, lies_tab_in, lies_tab_out, lies_there}
use Rattle.word_laws.proofs.Below.{Below, below_in, below_out, below_tab, below_first, below_second, below_both}
use Rattle.word_laws.proofs.Counters.{tally_small, counts_back, counts_below, counts_form}

-- ---- flags

pub flag_back : (f : Bool) → flag_in (flag_word f) ≡ f
flag_back true = refl
flag_back false = refl

flag_few : (f : Bool) → flag_word f < 2
flag_few true = omega arith
flag_few false = omega arith

flag_form : (w : ℕ) → w < 2 → flag_word (flag_in w) ≡ w
flag_form zero h = refl
flag_form (suc zero) h = refl
flag_form (suc (suc w)) h = absurd (omega arith)

module _ {words : List ℕ} {at : ℕ} where
  flags_back : (flags : List Bool) → length flags ≡ most_processes → Lies words at (flag_words flags) → flags_at words at ≡ flags
  unfolding flags_at
  flags_back flags long lies =
      sym (tab_is false most_processes (λ p. flag_in (word words (at + p))) flags long
      (λ p h. sym (ap flag_in (lies_tab_in most_processes (λ p. flag_word (flag flags p)) lies p h) ∙ flag_back (flag flags p))))

  flags_below : (flags : List Bool) → Lies words at (flag_words flags) → Below 2 words at most_processes
  flags_below flags lies = below_tab most_processes (λ p. flag_word (flag flags p)) lies (λ p h. flag_few (flag flags p))

  flags_form : Below 2 words at most_processes → Lies words at (flag_words (flags_at words at))
  unfolding flags_at
  flags_form below =
      lies_tab_out most_processes (λ p. flag_word (flag (flags_at words at) p))
      (λ p h.
      sym (ap flag_word (get_d_tab most_processes (λ p. flag_in (word words (at + p))) p false h) ∙ flag_form (word words (at + p)) (below.each p h)))

-- ---- the parts

abbrev awaited_words : Initiator → List ℕ
awaited_words state = flag_words state.awaited

abbrev matrix_words : Initiator → List ℕ
matrix_words state = count_words matrix_length state.matrix

abbrev copy_words : Initiator → List ℕ
copy_words state = count_words matrix_length state.copy

pub record Parts (words : List ℕ) (at : ℕ) (state : Initiator) : Type 0 where
  pub first : Lies words at (initiator_head state)
  pub awaited : Lies words (at + awaited_at) (awaited_words state)
  pub matrix : Lies words (at + matrix_at) (matrix_words state)
  pub copy : Lies words (at + copy_at) (copy_words state)

module _ (state : Initiator) where
  abbrev counted : List ℕ
  counted = matrix_words state ++ copy_words state

  abbrev rest : List ℕ
  rest = awaited_words state ++ counted

  awaited_length : length (awaited_words state) ≡ most_processes
  awaited_length = length_tab most_processes (λ p. flag_word (flag state.awaited p))

  matrix_length_lem : length (matrix_words state) ≡ matrix_length
  matrix_length_lem = length_tab matrix_length (counters state.matrix)

  pub initiator_length_lem : length (initiator_words state) ≡ initiator_length
  unfolding initiator_words
  initiator_length_lem =
      omega (
        arith,
        length-append (initiator_head state) rest,
        length-append (awaited_words state) counted,
        awaited_length,
        length-append (matrix_words state) (copy_words state),
        matrix_length_lem,
        length_tab matrix_length (counters state.copy),
      )

  module _ (words : List ℕ) (at : ℕ) where
    seam : at + matrix_at ≡ at + awaited_at + length (awaited_words state)
    seam = omega (arith, awaited_length)

    next_seam : at + copy_at ≡ at + matrix_at + length (matrix_words state)
    next_seam = omega (arith, matrix_length_lem)

    pub parts_in : Lies words at (initiator_words state) → Parts words at state
    unfolding initiator_words
    parts_in lies =
        let second : Lies words (at + awaited_at) rest = lies_second (initiator_head state) rest (at + awaited_at) refl lies in
        let third : Lies words (at + matrix_at) counted = lies_second (awaited_words state) counted (at + matrix_at) seam second in
        record {
          first = lies_first (initiator_head state) rest (at + awaited_at) refl lies;
          awaited = lies_first (awaited_words state) counted (at + matrix_at) seam second;
          matrix = lies_first (matrix_words state) (copy_words state) (at + copy_at) next_seam third;
          copy = lies_second (matrix_words state) (copy_words state) (at + copy_at) next_seam third;
        }

    parts_out : Parts words at state → Lies words at (initiator_words state)
    unfolding initiator_words
    parts_out parts =
        lies_both (initiator_head state) rest (at + awaited_at) refl parts.first
        (lies_both (awaited_words state) counted (at + matrix_at) seam parts.awaited
        (lies_both (matrix_words state) (copy_words state) (at + copy_at) next_seam parts.matrix parts.copy))

-- ---- there and back, at a place

module _ {words : List ℕ} {at : ℕ} {state : Initiator} (is : IsInitiator state) (lies : Lies words at (initiator_words state)) where
  parts : Parts words at state
  parts = parts_in state words at lies

  pub initiator_at_lem : initiator_from (word words at) words at ≡ state
  unfolding initiator_from
  initiator_at_lem =
      let n : word words at ≡ state.n = ap (word words) (sym (add-zero at)) ∙ parts.first.each 0 (omega arith) in
      rw (
        n,
        parts.first.each process_at (omega arith),
        parts.first.each purpose_at (omega arith),
        parts.first.each ended_at (omega arith),
        flag_back state.ended,
        parts.first.each candidate_at (omega arith),
        parts.first.each rounds_at (omega arith),
        tally_small state.rounds is.rounds,
        flags_back state.awaited is.awaited parts.awaited,
        counts_back is.matrix parts.matrix,
        counts_back is.copy parts.copy,
      )

  pub initiator_decodes_lem : initiator_decodes words at ≡ true
  unfolding initiator_decodes
  initiator_decodes_lem =
      let ended : word words (at + ended_at) < 2 = subst (λ (w : ℕ). w < 2) (sym (parts.first.each ended_at (omega arith))) (flag_few state.ended) in
      let rounds : word words (at + rounds_at) < tally_bound = subst (λ (w : ℕ). w < tally_bound) (sym (parts.first.each rounds_at (omega arith))) is.rounds in
      let counts : Below counter_bound words (at + matrix_at) (matrix_length + matrix_length)
      = below_both matrix_length matrix_length {next = at + copy_at} (omega arith) (counts_below is.matrix parts.matrix) (counts_below is.copy parts.copy) in
      rw (
        lt-ltb (word words (at + ended_at)) 2 ended,
        lt-ltb (word words (at + rounds_at)) tally_bound rounds,
        below_out (flags_below state.awaited parts.awaited),
        below_out counts,
      )

pub initiator_lies : (words : List ℕ) (at : ℕ) → initiator_decodes words at ≡ true
    → Lies words at (initiator_words (initiator_from (word words at) words at))
unfolding initiator_decodes initiator_from tab_from
initiator_lies words at decodes =
    let ended : Bool = ltb (word words (at + ended_at)) 2 in
    let rounds : Bool = ltb (word words (at + rounds_at)) tally_bound in
    let flags : Bool = all_below 2 words (at + awaited_at) most_processes in
    let counts : Bool = all_below counter_bound words (at + matrix_at) (matrix_length + matrix_length) in
    let a = and_both ended (rounds && (flags && counts)) decodes in
    let b = and_both rounds (flags && counts) a.1 in
    let c = and_both flags counts b.1 in
    let below : Below counter_bound words (at + matrix_at) (matrix_length + matrix_length) = below_in c.1 in
    let is_flag = flag_form (word words (at + ended_at)) (ltb-true (word words (at + ended_at)) 2 a.0) in
    let is_tally = tally_small (word words (at + rounds_at)) (ltb-true (word words (at + rounds_at)) tally_bound b.0) in
    parts_out (initiator_from (word words at) words at) words at
    (record {
      first = rw (is_flag, is_tally) (rw (add-zero at) at (lies_there words at awaited_at));
      awaited = flags_form (below_in c.0);
      matrix = counts_form (below_first matrix_length matrix_length {next = at + copy_at} (omega arith) below);
      copy = counts_form (below_second matrix_length matrix_length (omega arith) below);
    })

-- ---- a slice

decoded_is : (words : List ℕ) → initiator_decodes words 0 ≡ true → initiator_in words ≡ initiator_from (word words 0) words 0
unfolding initiator_in
decoded_is words decoded = rw decoded

pub initiator_back : InitiatorBack
initiator_back state is =
    let words : List ℕ = initiator_words state in
    let lies : Lies words 0 words = lies_self words in
    decoded_is words (initiator_decodes_lem is lies) ∙ initiator_at_lem is lies

pub initiator_form : InitiatorForm
initiator_form words long decoded =
    ap initiator_words (decoded_is words decoded)
    ∙ lies_all (initiator_lies words 0 decoded) (long ∙ sym (initiator_length_lem (initiator_from (word words 0) words 0)))
