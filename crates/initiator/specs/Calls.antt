-- The initiator's calls: the questions of each in document 01's order, and what it answers.
use Rattle.std.specs.Prelude.{List, ℕ, ◌-◌}
use Rattle.book.specs.Lent.{Tables}
use Rattle.book.specs.declared.Process.{Process}
use Rattle.book.specs.InTurn.{◌then◌, ask, unless_refused}
use Rattle.book.specs.Check.{tables_question}
use Rattle.matrix.specs.Matrix.{as_matrix, row}
use Rattle.matrix.specs.Entries.{all_lower}
use Rattle.message.specs.declared.Message.{Message}
use Rattle.book.specs.Names.{is_named, is_purpose}
use Rattle.message.specs.Formed.{message_formed}
use Rattle.message.specs.Read.{message_read}
use Rattle.mail.specs.Outgoing.{room_question, sent_bytes, sent_lengths}
use Rattle.machine.specs.Own.{Own, own_of}
use Rattle.initiator.specs.declared.Initiator.{Initiator}
use Rattle.initiator.specs.declared.InitiatorStep.{InitiatorStep}
use Rattle.initiator.specs.Begin.{without_wait, begin}
use Rattle.initiator.specs.Fits.{fits}
use Rattle.initiator.specs.Step.{sender_of, awaits, step}

-- ---- an initiator begins

-- what a beginning makes of accepted tables
abbrev pub begin_on : Tables → Process → ℕ → InitiatorStep
begin_on tables me purpose = begin (own_of tables (me.0 - 1)) me purpose

unfoldable pub begin_question : Tables → Process → ℕ → List ℕ → ℕ
begin_question tables me purpose out =
    tables_question tables
    then λ _. ask 10 (is_named tables.shape.n me.0)
    then λ _. ask 11 (is_purpose purpose)
    then λ _. room_question (begin_on tables me purpose).outgoing out

-- where there is none: all zero, and ended
unfoldable pub no_initiator : Initiator
no_initiator = without_wait 0 (record { 0 = 0 }) 0 0 (as_matrix (λ j p. 0))

unfoldable pub state_begun : Tables → Process → ℕ → List ℕ → Initiator
state_begun tables me purpose out =
    unless_refused (begin_question tables me purpose out) no_initiator
    (begin_on tables me purpose).state

unfoldable pub lengths_begun : Tables → Process → ℕ → List ℕ → List ℕ
lengths_begun tables me purpose out = sent_lengths (begin_question tables me purpose out) (begin_on tables me purpose).outgoing

unfoldable pub bytes_begun : Tables → Process → ℕ → List ℕ → List ℕ
bytes_begun tables me purpose out = sent_bytes (begin_question tables me purpose out) (begin_on tables me purpose).outgoing out

-- ---- an initiator receives a message

abbrev pub own_of_state : Tables → Initiator → Own
own_of_state tables state = own_of tables (state.me.0 - 1)

-- the initiator's own process is the initiator
abbrev pub read_by : ℕ → Initiator → List ℕ → Message
read_by n state s = message_read n state.me.0 state.me.0 s

-- 10, 11 and 13 of the state
abbrev pub state_question : ℕ → Own → Initiator → ℕ
state_question n own state =
    ask 10 (is_named n state.me.0)
    then λ _. ask 11 (is_purpose state.purpose)
    then λ _. ask 13 (fits own state)

-- 14, 15 and 16 of the message: "Is each counter lower than the entry now held (by the initiator, in its matrix)?"
abbrev pub message_question : ℕ → Initiator → List ℕ → ℕ
message_question n state s =
    ask 14 (message_formed n state.me.0 state.me.0 s)
    then λ _. ask 15 (awaits state (read_by n state s))
    then λ _. ask 16 (all_lower (read_by n state s).news (row state.matrix (sender_of (read_by n state s))))

-- the step on accepted tables
abbrev pub step_on : Tables → Initiator → List ℕ → InitiatorStep
step_on tables state s = step (own_of_state tables state) state (read_by tables.shape.n state s)

unfoldable pub receive_question : Tables → Initiator → List ℕ → List ℕ → ℕ
receive_question tables state s out =
    tables_question tables
    then λ _. state_question tables.shape.n (own_of_state tables state) state
    then λ _. message_question tables.shape.n state s
    then λ _. room_question (step_on tables state s).outgoing out

unfoldable pub state_after : Tables → Initiator → List ℕ → List ℕ → Initiator
state_after tables state s out = unless_refused (receive_question tables state s out) state (step_on tables state s).state

unfoldable pub lengths_after : Tables → Initiator → List ℕ → List ℕ → List ℕ
lengths_after tables state s out = sent_lengths (receive_question tables state s out) (step_on tables state s).outgoing

unfoldable pub bytes_after : Tables → Initiator → List ℕ → List ℕ → List ℕ
bytes_after tables state s out = sent_bytes (receive_question tables state s out) (step_on tables state s).outgoing out
