-- What a caller in another language reads off the words of a session, as the header lays them out. Processes count from 0, and
-- the initiator is named, from 1.
use Rattle.std.specs.Prelude.{Bool, not, List, ℕ, suc, ◌+◌, eqb}
use Rattle.book.specs.Bounds.{most_processes}
use Rattle.lists.specs.Over.{all_to}
use Rattle.lists.specs.Pick.{pick}
use Rattle.words.specs.Words.{word}
use Rattle.words.specs.Participant as participant_words
use Rattle.words.specs.Initiator as initiator_words
use Rattle.words.specs.Session.{machine_start, place_start, lengths_start, delivered_at}

-- a message waits on k's strand: its length is not 0
abbrev pub waits_in_words : List ℕ → ℕ → Bool
waits_in_words session k = not (eqb (word session (lengths_start + k)) 0)

-- worker j has ended: the initiator's flag is 1, a participant's stage 2
abbrev pub ended_in_words : ℕ → List ℕ → ℕ → Bool
ended_in_words initiator session j =
    pick (eqb (suc j) initiator) (eqb (word session (machine_start + initiator_words.ended_at)) 1) (eqb (word session (place_start j + participant_words.stage_at)) 2)

-- worker j stands on its candidate
abbrev pub stands_in_words : ℕ → List ℕ → ℕ → ℕ
stands_in_words initiator session j =
    pick (eqb (suc j) initiator) (word session (machine_start + initiator_words.candidate_at)) (word session (place_start j + participant_words.candidate_at))

-- the initiator awaits a report of k: its flag is not 0
abbrev pub awaited_in_words : List ℕ → ℕ → Bool
awaited_in_words session k = not (eqb (word session (machine_start + initiator_words.awaited_at + k)) 0)

-- how many rounds, and how many messages delivered
abbrev pub rounds_in_words : List ℕ → ℕ
rounds_in_words session = word session (machine_start + initiator_words.rounds_at)

abbrev pub delivered_in_words : List ℕ → ℕ
delivered_in_words session = word session delivered_at

-- a message waits on some strand
abbrev pub some_message_waits : List ℕ → Bool
some_message_waits session = not (all_to most_processes (λ k. not (waits_in_words session k)))

-- some worker has not ended
abbrev pub some_worker_goes_on : ℕ → ℕ → List ℕ → Bool
some_worker_goes_on n initiator session = not (all_to n (ended_in_words initiator session))

-- some report is awaited
abbrev pub some_report_awaited : List ℕ → Bool
some_report_awaited session = not (all_to most_processes (λ k. not (awaited_in_words session k)))
