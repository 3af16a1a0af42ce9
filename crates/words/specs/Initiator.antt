-- An initiator's state as words: n, process, purpose, ended, candidate, rounds, then who is awaited, the matrix and its copy.
use Rattle.std.specs.Prelude.{Bool, not, ◌&&◌, List, [], ◌∷◌, ◌++◌, ℕ, ◌+◌, ltb, eqb}
use Rattle.book.specs.Bounds.{most_processes}
use Rattle.lists.specs.Over.{tab}
use Rattle.lists.specs.Pick.{pick}
use Rattle.machine.specs.Named.{tally_bound}
use Rattle.machine.specs.Flags.{flag}
use Rattle.initiator.specs.declared.Initiator.{Initiator}
use Rattle.words.specs.Words.{word, all_below, counter_bound, tally_in, counts_at, count_words, matrix_length}

-- where each stands, n first: a part begins where the one before it ends
abbrev pub process_at : ℕ
process_at = 1

abbrev pub purpose_at : ℕ
purpose_at = process_at + 1

abbrev pub ended_at : ℕ
ended_at = purpose_at + 1

abbrev pub candidate_at : ℕ
candidate_at = ended_at + 1

abbrev pub rounds_at : ℕ
rounds_at = candidate_at + 1

abbrev pub awaited_at : ℕ
awaited_at = rounds_at + 1

abbrev pub matrix_at : ℕ
matrix_at = awaited_at + most_processes

abbrev pub copy_at : ℕ
copy_at = matrix_at + matrix_length

abbrev pub initiator_length : ℕ
initiator_length = copy_at + matrix_length

abbrev pub flag_word : Bool → ℕ
flag_word f = pick f 1 0

abbrev pub flag_words : List Bool → List ℕ
flag_words flags = tab most_processes (λ p. flag_word (flag flags p))

-- a word above 1 is no flag: whoever takes one asks `initiator_decodes` too
abbrev pub flag_in : ℕ → Bool
flag_in w = not (eqb w 0)

unfoldable pub flags_at : List ℕ → ℕ → List Bool
flags_at words at = tab most_processes (λ p. flag_in (word words (at + p)))

-- the words before the flags
abbrev pub initiator_head : Initiator → List ℕ
initiator_head state =
    state.n
    ∷ (state.me.0
    ∷ (state.purpose ∷ (flag_word state.ended ∷ (state.candidate.0 ∷ (state.rounds ∷ [])))))

unfoldable pub initiator_words : Initiator → List ℕ
initiator_words state =
    initiator_head state
    ++ (flag_words state.awaited ++ (count_words matrix_length state.matrix ++ count_words matrix_length state.copy))

-- do the words from a place on stand for a state?
unfoldable pub initiator_decodes : List ℕ → ℕ → Bool
initiator_decodes words at =
    ltb (word words (at + ended_at)) 2
    && (ltb (word words (at + rounds_at)) tally_bound
    && (all_below 2 words (at + awaited_at) most_processes
    && all_below counter_bound words (at + matrix_at) (matrix_length + matrix_length)))

-- the state that they stand for, of n processes
unfoldable pub initiator_from : ℕ → List ℕ → ℕ → Initiator
initiator_from n words at =
    record {
      n = n;
      me = record { 0 = word words (at + process_at) };
      purpose = word words (at + purpose_at);
      ended = flag_in (word words (at + ended_at));
      candidate = record { 0 = word words (at + candidate_at) };
      rounds = tally_in (word words (at + rounds_at));
      awaited = flags_at words (at + awaited_at);
      matrix = counts_at matrix_length words (at + matrix_at);
      copy = counts_at matrix_length words (at + copy_at);
    }

-- the state in a slice of words; one that does not decode has no processes, as a participant's
unfoldable pub initiator_in : List ℕ → Initiator
initiator_in words = initiator_from (pick (initiator_decodes words 0) (word words 0) 0) words 0
