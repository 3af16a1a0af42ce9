-- What users rely on of values that cross as words.
use Rattle.std.specs.Prelude.{◌≡◌, true, false, ◌&&◌, List, ℕ, length}
use Rattle.book.specs.Lent.{Tables}
use Rattle.book.specs.declared.Shape.{Shape}
use Rattle.book.specs.declared.Process.{Process}
use Rattle.book.specs.declared.Checkpoint.{Checkpoint}
use Rattle.book.specs.Bounds.{most_processes}
use Rattle.book.specs.InTurn.{◌then◌, ask}
use Rattle.book.specs.Check.{tables_question}
use Rattle.book.specs.Names.{is_named, is_purpose}
use Rattle.machine.specs.Named.{participant_named}
use Rattle.participant.specs.declared.Participant.{Participant}
use Rattle.participant.specs.Calls as participant
use Rattle.initiator.specs.declared.Initiator.{Initiator}
use Rattle.initiator.specs.Calls as initiator
use Rattle.session.specs.declared.Session.{Session}
use Rattle.session.specs.Fits.{session_named, session_purposes}
use Rattle.session.specs.Calls.{turn_question}
use Rattle.words.specs.Words.{word, shape_length, set_length}
use Rattle.words.specs.Plain.{shape_in, shape_words, set_in, set_words}
use Rattle.words.specs.Participant as participant_words
use Rattle.words.specs.Participant.{participant_length, participant_words, participant_decodes, participant_in}
use Rattle.words.specs.Initiator as initiator_words
use Rattle.words.specs.Initiator.{initiator_length, initiator_words, initiator_decodes, initiator_in}
use Rattle.words.specs.Session.{initiator_at, session_length, session_words, session_decodes, session_in}
use Rattle.word_laws.specs.Values.{IsParticipant, IsInitiator, IsSession}

-- ---- Decoding what was encoded gives the value.

abbrev pub ShapeBack : Type 0
ShapeBack = (shape : Shape) → length shape.counts ≡ most_processes → shape_in (shape_words shape) ≡ shape

abbrev pub SetBack : Type 0
SetBack = (set : List Checkpoint) → length set ≡ most_processes → set_in (set_words set) ≡ set

abbrev pub ParticipantBack : Type 0
ParticipantBack = (state : Participant) → IsParticipant state → participant_in (participant_words state) ≡ state

abbrev pub InitiatorBack : Type 0
InitiatorBack = (state : Initiator) → IsInitiator state → initiator_in (initiator_words state) ≡ state

abbrev pub SessionBack : Type 0
SessionBack = (session : Session) → IsSession session → session_in (session_words session) ≡ session

-- ---- Encoding what was decoded gives the words: each state has one form.

abbrev pub ShapeForm : Type 0
ShapeForm = (words : List ℕ) → length words ≡ shape_length → shape_words (shape_in words) ≡ words

abbrev pub SetForm : Type 0
SetForm = (words : List ℕ) → length words ≡ set_length → set_words (set_in words) ≡ words

abbrev pub ParticipantForm : Type 0
ParticipantForm =
    (words : List ℕ) → length words ≡ participant_length → participant_decodes words 0 ≡ true
    → participant_words (participant_in words) ≡ words

abbrev pub InitiatorForm : Type 0
InitiatorForm =
    (words : List ℕ) → length words ≡ initiator_length → initiator_decodes words 0 ≡ true
    → initiator_words (initiator_in words) ≡ words

abbrev pub SessionForm : Type 0
SessionForm =
    (words : List ℕ) → length words ≡ session_length → session_decodes words ≡ true
    → session_words (session_in words) ≡ words

-- ---- What does not decode is judged by its names, 10 and 11, and then refused by 13.

abbrev pub ParticipantUndecoded : Type 0
ParticipantUndecoded =
    (tables : Tables) (words message out : List ℕ) → participant_decodes words 0 ≡ false
    → participant.receive_question tables (participant_in words) message out
    ≡ (tables_question tables
    then λ _. ask 10 (participant_named tables.shape.n (word words participant_words.process_at) (word words participant_words.initiator_at))
    then λ _. ask 11 (is_purpose (word words participant_words.purpose_at))
    then λ _. 13)

abbrev pub InitiatorUndecoded : Type 0
InitiatorUndecoded =
    (tables : Tables) (words message out : List ℕ) → initiator_decodes words 0 ≡ false
    → initiator.receive_question tables (initiator_in words) message out
    ≡ (tables_question tables
    then λ _. ask 10 (is_named tables.shape.n (word words initiator_words.process_at))
    then λ _. ask 11 (is_purpose (word words initiator_words.purpose_at))
    then λ _. 13)

abbrev pub SessionUndecoded : Type 0
SessionUndecoded =
    (tables : Tables) (words : List ℕ) (p : Process) (strands : List ℕ) → session_decodes words ≡ false
    → turn_question tables (session_in words) p strands
    ≡ (tables_question tables
    then λ _. ask 10 (participant_named tables.shape.n p.0 (word words initiator_at) && session_named tables.shape.n (session_in words))
    then λ _. ask 11 (session_purposes (session_in words))
    then λ _. 13)
