-- The exported calls of the two machines. A state crosses as words, and a step puts the state after it in the same slice.
use Rattle.std.specs.Prelude.{◌&&◌, List, ℕ}
use Rattle.book.specs.Lent.{lent}
use Rattle.book.specs.declared.Process.{Process}
use Rattle.book.specs.InTurn.{◌then◌, ask, unless_refused}
use Rattle.participant.specs.Calls as participant
use Rattle.initiator.specs.Calls as initiator
use Rattle.words.specs.Words.{shape_length, lengths_length, wrong_length, is_long}
use Rattle.words.specs.Plain.{shape_in, number_words}
use Rattle.words.specs.Participant.{participant_length, participant_words, participant_in}
use Rattle.words.specs.Initiator.{initiator_length, initiator_words, initiator_in}

-- a process that a call names
abbrev pub as_process : ℕ → Process
as_process p = record { 0 = p }

-- ---- a participant's first state

module _ (shape sent received : List ℕ) (me inviter purpose : ℕ) (state : List ℕ) where
  unfoldable pub participant_first_answer : ℕ
  participant_first_answer =
      ask wrong_length (is_long shape_length shape && is_long participant_length state)
      then λ _. participant.first_question (lent (shape_in shape) sent received) me inviter purpose

  unfoldable pub participant_first_state : List ℕ
  participant_first_state =
      unless_refused participant_first_answer state
      (participant_words (participant.first_state (lent (shape_in shape) sent received) (as_process me) (as_process inviter) purpose))

-- ---- a participant receives a message

module _ (state shape sent received message out lengths : List ℕ) where
  unfoldable pub participant_receive_answer : ℕ
  participant_receive_answer =
      ask wrong_length (is_long shape_length shape && (is_long participant_length state && is_long lengths_length lengths))
      then λ _. participant.receive_question (lent (shape_in shape) sent received) (participant_in state) message out

  unfoldable pub participant_receive_state : List ℕ
  participant_receive_state =
      unless_refused participant_receive_answer state
      (participant_words (participant.state_after (lent (shape_in shape) sent received) (participant_in state) message out))

  unfoldable pub participant_receive_out : List ℕ
  participant_receive_out =
      unless_refused participant_receive_answer out
      (participant.bytes_after (lent (shape_in shape) sent received) (participant_in state) message out)

  unfoldable pub participant_receive_lengths : List ℕ
  participant_receive_lengths =
      unless_refused participant_receive_answer lengths
      (number_words (participant.lengths_after (lent (shape_in shape) sent received) (participant_in state) message out))

-- ---- an initiator begins

module _ (shape sent received : List ℕ) (me purpose : ℕ) (state out lengths : List ℕ) where
  unfoldable pub initiator_begin_answer : ℕ
  initiator_begin_answer =
      ask wrong_length (is_long shape_length shape && (is_long initiator_length state && is_long lengths_length lengths))
      then λ _. initiator.begin_question (lent (shape_in shape) sent received) (as_process me) purpose out

  unfoldable pub initiator_begin_state : List ℕ
  initiator_begin_state =
      unless_refused initiator_begin_answer state
      (initiator_words (initiator.state_begun (lent (shape_in shape) sent received) (as_process me) purpose out))

  unfoldable pub initiator_begin_out : List ℕ
  initiator_begin_out =
      unless_refused initiator_begin_answer out
      (initiator.bytes_begun (lent (shape_in shape) sent received) (as_process me) purpose out)

  unfoldable pub initiator_begin_lengths : List ℕ
  initiator_begin_lengths =
      unless_refused initiator_begin_answer lengths
      (number_words (initiator.lengths_begun (lent (shape_in shape) sent received) (as_process me) purpose out))

-- ---- an initiator receives a report

module _ (state shape sent received message out lengths : List ℕ) where
  unfoldable pub initiator_receive_answer : ℕ
  initiator_receive_answer =
      ask wrong_length (is_long shape_length shape && (is_long initiator_length state && is_long lengths_length lengths))
      then λ _. initiator.receive_question (lent (shape_in shape) sent received) (initiator_in state) message out

  unfoldable pub initiator_receive_state : List ℕ
  initiator_receive_state =
      unless_refused initiator_receive_answer state
      (initiator_words (initiator.state_after (lent (shape_in shape) sent received) (initiator_in state) message out))

  unfoldable pub initiator_receive_out : List ℕ
  initiator_receive_out =
      unless_refused initiator_receive_answer out
      (initiator.bytes_after (lent (shape_in shape) sent received) (initiator_in state) message out)

  unfoldable pub initiator_receive_lengths : List ℕ
  initiator_receive_lengths =
      unless_refused initiator_receive_answer lengths
      (number_words (initiator.lengths_after (lent (shape_in shape) sent received) (initiator_in state) message out))
