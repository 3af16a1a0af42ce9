-- A participant's state as words: n, process, initiator, purpose, stage, candidate, then its row and its column.
use Rattle.std.specs.Prelude.{Bool, ◌&&◌, List, [], ◌∷◌, ◌++◌, ℕ, zero, suc, ◌+◌, ltb}
use Rattle.book.specs.Bounds.{most_processes}
use Rattle.lists.specs.Pick.{pick}
use Rattle.participant.specs.declared.Participant.{Participant}
use Rattle.participant.specs.declared.Stage.{Stage}
use Rattle.participant.specs.declared.Stage.TheVariants.{Before, Searching, Ended}
use Rattle.words.specs.Words.{word, all_below, counter_bound, counts_at, count_words}

-- where each stands, n first: a part begins where the one before it ends
abbrev pub process_at : ℕ
process_at = 1

abbrev pub initiator_at : ℕ
initiator_at = process_at + 1

abbrev pub purpose_at : ℕ
purpose_at = initiator_at + 1

abbrev pub stage_at : ℕ
stage_at = purpose_at + 1

abbrev pub candidate_at : ℕ
candidate_at = stage_at + 1

abbrev pub row_at : ℕ
row_at = candidate_at + 1

abbrev pub column_at : ℕ
column_at = row_at + most_processes

abbrev pub participant_length : ℕ
participant_length = column_at + most_processes

abbrev pub stage_word : Stage → ℕ
stage_word Before = 0
stage_word Searching = 1
stage_word Ended = 2

-- a word above 2 is no stage: whoever takes one asks `participant_decodes` too
abbrev pub stage_in : ℕ → Stage
stage_in zero = Before
stage_in (suc zero) = Searching
stage_in (suc (suc w)) = Ended

-- the words before the row
abbrev pub participant_head : Participant → List ℕ
participant_head state =
    state.n
    ∷ (state.me.0
    ∷ (state.initiator.0 ∷ (state.purpose ∷ (stage_word state.stage ∷ (state.candidate.0 ∷ [])))))

unfoldable pub participant_words : Participant → List ℕ
participant_words state =
    participant_head state ++ (count_words most_processes state.row ++ count_words most_processes state.column)

-- do the words from a place on stand for a state?
unfoldable pub participant_decodes : List ℕ → ℕ → Bool
participant_decodes words at =
    ltb (word words (at + stage_at)) 3 && all_below counter_bound words (at + row_at) (most_processes + most_processes)

-- the state that they stand for, of n processes
unfoldable pub participant_from : ℕ → List ℕ → ℕ → Participant
participant_from n words at =
    record {
      n = n;
      me = record { 0 = word words (at + process_at) };
      initiator = record { 0 = word words (at + initiator_at) };
      purpose = word words (at + purpose_at);
      stage = stage_in (word words (at + stage_at));
      candidate = record { 0 = word words (at + candidate_at) };
      row = counts_at most_processes words (at + row_at);
      column = counts_at most_processes words (at + column_at);
    }

-- The state in a slice of words. One that does not decode is taken for a state of no processes with the same names: questions 10
-- and 11 judge these, and 13 refuses it, since n is not the tables'.
unfoldable pub participant_in : List ℕ → Participant
participant_in words = participant_from (pick (participant_decodes words 0) (word words 0) 0) words 0
