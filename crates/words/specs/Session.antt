-- A session as words: n, initiator, purpose, the initiator's words, those of sixteen participants, how many bytes wait on each
-- strand, and the count of messages delivered.
use Rattle.std.specs.Prelude.{Bool, ◌&&◌, List, [], ◌∷◌, ◌++◌, ℕ, zero, suc, ◌+◌, ◌*◌, get_or, ltb}
use Rattle.book.specs.Bounds.{most_processes}
use Rattle.lists.specs.Over.{all_to, tab}
use Rattle.lists.specs.Pick.{pick}
use Rattle.machine.specs.Named.{tally_bound}
use Rattle.participant.specs.declared.Participant.{Participant}
use Rattle.participant.specs.Calls.{no_participant}
use Rattle.session.specs.declared.Session.{Session}
use Rattle.words.specs.Words.{word, tally_in, sixteen_at}
use Rattle.words.specs.Plain.{number_words}
use Rattle.words.specs.Participant.{participant_length, participant_words, participant_decodes, participant_from}
use Rattle.words.specs.Initiator.{initiator_length, initiator_words, initiator_decodes, initiator_from}

-- where each part begins, n first: who the initiator is, the purpose, the initiator's words, those of the participant at place k,
-- which counts from 0, the lengths, the count
abbrev pub initiator_at : ℕ
initiator_at = 1

abbrev pub purpose_at : ℕ
purpose_at = initiator_at + 1

abbrev pub machine_start : ℕ
machine_start = purpose_at + 1

abbrev pub place_start : ℕ → ℕ
place_start k = machine_start + initiator_length + k * participant_length

abbrev pub lengths_start : ℕ
lengths_start = place_start most_processes

abbrev pub delivered_at : ℕ
delivered_at = lengths_start + most_processes

abbrev pub session_length : ℕ
session_length = delivered_at + 1

-- the first k participants
unfoldable pub place_words : List Participant → ℕ → List ℕ
place_words participants zero = []
place_words participants (suc k) = place_words participants k ++ participant_words (get_or participants k no_participant)

-- the words before the initiator's
abbrev pub session_head : Session → List ℕ
session_head session = session.n ∷ (session.initiator.0 ∷ (session.purpose ∷ []))

unfoldable pub session_words : Session → List ℕ
session_words session =
    session_head session
    ++ (initiator_words session.machine
    ++ (place_words session.participants most_processes ++ (number_words session.lengths ++ (session.delivered ∷ []))))

unfoldable pub places_decode : List ℕ → Bool
places_decode words = all_to most_processes (λ k. participant_decodes words (place_start k))

unfoldable pub places_at : List ℕ → List Participant
places_at words = tab {A = Participant} most_processes (λ k. participant_from (word words (place_start k)) words (place_start k))

-- does a slice of words stand for a session?
unfoldable pub session_decodes : List ℕ → Bool
session_decodes words =
    initiator_decodes words machine_start && (places_decode words && ltb (word words delivered_at) tally_bound)

-- the session in a slice of words; one that does not decode has no processes, as a participant's state, and keeps every name
unfoldable pub session_in : List ℕ → Session
session_in words =
    record {
      n = pick (session_decodes words) (word words 0) 0;
      initiator = record { 0 = word words initiator_at };
      purpose = word words purpose_at;
      machine = initiator_from (word words machine_start) words machine_start;
      participants = places_at words;
      lengths = sixteen_at words lengths_start;
      delivered = tally_in (word words delivered_at);
    }
