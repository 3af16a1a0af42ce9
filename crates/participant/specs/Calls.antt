-- The participant's calls: the questions of each in document 01's order, and what it answers.
use Rattle.std.specs.Prelude.{List, ℕ, ◌-◌, Result, Err, Option, Some, None}
use Rattle.book.specs.Lent.{Tables}
use Rattle.book.specs.declared.Process.{Process}
use Rattle.book.specs.InTurn.{◌then◌, ask, answer_with, unless_refused}
use Rattle.book.specs.Check.{tables_question}
use Rattle.matrix.specs.Entries.{all_lower}
use Rattle.message.specs.declared.Message.{Message}
use Rattle.book.specs.Names.{is_purpose}
use Rattle.message.specs.Formed.{message_formed}
use Rattle.message.specs.Read.{message_read}
use Rattle.mail.specs.Outgoing.{room_question, sent_bytes, sent_lengths}
use Rattle.machine.specs.Own.{Own, own_of}
use Rattle.machine.specs.Named.{participant_named}
use Rattle.participant.specs.declared.Participant.{Participant}
use Rattle.participant.specs.declared.ParticipantStep.{ParticipantStep}
use Rattle.participant.specs.Fits.{fits}
use Rattle.participant.specs.Step.{first_of, first, awaits, step}

-- ---- a participant's first state

abbrev pub first_question : Tables → ℕ → ℕ → ℕ → ℕ
first_question tables me initiator purpose =
    tables_question tables
    then λ _. ask 10 (participant_named tables.shape.n me initiator)
    then λ _. ask 11 (is_purpose purpose)

-- where there is none: all zero, with no processes to be known or not
unfoldable pub no_participant : Participant
no_participant = first_of 0 0 (record { 0 = 0 }) (record { 0 = 0 }) 0

unfoldable pub first_state : Tables → Process → Process → ℕ → Participant
first_state tables me initiator purpose =
    unless_refused (first_question tables me.0 initiator.0 purpose) no_participant
    (first (own_of tables (me.0 - 1)) me initiator purpose)

-- ---- a participant receives a message

-- what it sees of the tables, and the message that it reads
abbrev pub own_of_state : Tables → Participant → Own
own_of_state tables state = own_of tables (state.me.0 - 1)

abbrev pub read_by : ℕ → Participant → List ℕ → Message
read_by n state s = message_read n state.me.0 state.initiator.0 s

-- 10, 11 and 13 of the state
abbrev pub state_question : ℕ → Own → Participant → ℕ
state_question n own state =
    ask 10 (participant_named n state.me.0 state.initiator.0)
    then λ _. ask 11 (is_purpose state.purpose)
    then λ _. ask 13 (fits own state)

-- 14, 15 and 16 of the message, 16 being "Is each counter lower than the entry now held ..?"
abbrev pub message_question : ℕ → Participant → List ℕ → ℕ
message_question n state s =
    ask 14 (message_formed n state.me.0 state.initiator.0 s)
    then λ _. ask 15 (awaits state (read_by n state s))
    then λ _. ask 16 (all_lower (read_by n state s).news state.column)

-- what these three answer of a message that was read: the message, if they pass
abbrev pub message_answer : Participant → Option Message → Result Message ℕ
message_answer state None = Err 14
message_answer state (Some m) =
    answer_with (ask 15 (awaits state m) then λ _. ask 16 (all_lower m.news state.column)) m

-- the step on accepted tables
abbrev pub step_on : Tables → Participant → List ℕ → ParticipantStep
step_on tables state s = step (own_of_state tables state) state (read_by tables.shape.n state s)

unfoldable pub receive_question : Tables → Participant → List ℕ → List ℕ → ℕ
receive_question tables state s out =
    tables_question tables
    then λ _. state_question tables.shape.n (own_of_state tables state) state
    then λ _. message_question tables.shape.n state s
    then λ _. room_question (step_on tables state s).outgoing out

unfoldable pub state_after : Tables → Participant → List ℕ → List ℕ → Participant
state_after tables state s out = unless_refused (receive_question tables state s out) state (step_on tables state s).state

unfoldable pub lengths_after : Tables → Participant → List ℕ → List ℕ → List ℕ
lengths_after tables state s out = sent_lengths (receive_question tables state s out) (step_on tables state s).outgoing

unfoldable pub bytes_after : Tables → Participant → List ℕ → List ℕ → List ℕ
bytes_after tables state s out = sent_bytes (receive_question tables state s out) (step_on tables state s).outgoing out
