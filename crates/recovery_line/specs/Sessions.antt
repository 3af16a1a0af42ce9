-- The exported calls on sessions: start, turn, search.
use Rattle.std.specs.Prelude.{◌&&◌, List, ℕ}
use Rattle.book.specs.Lent.{lent}
use Rattle.book.specs.InTurn.{◌then◌, ask, unless_refused}
use Rattle.session.specs.Calls.{start_question, session_started, strands_started, turn_question, session_after, strands_after}
use Rattle.searches.specs.Search.{search_question, set_searched, newer_searched, rounds_searched, messages_searched}
use Rattle.words.specs.Words.{shape_length, set_length, wrong_length, is_long}
use Rattle.words.specs.Plain.{shape_in, set_words}
use Rattle.words.specs.Session.{session_length, session_words, session_in}
use Rattle.recovery_line.specs.Machines.{as_process}

-- ---- start

module _ (shape sent received : List ℕ) (initiator purpose : ℕ) (session strands : List ℕ) where
  unfoldable pub start_answer : ℕ
  start_answer =
      ask wrong_length (is_long shape_length shape && is_long session_length session)
      then λ _. start_question (lent (shape_in shape) sent received) (as_process initiator) purpose strands

  unfoldable pub start_session : List ℕ
  start_session =
      unless_refused start_answer session
      (session_words (session_started (lent (shape_in shape) sent received) (as_process initiator) purpose strands))

  unfoldable pub start_strands : List ℕ
  start_strands =
      unless_refused start_answer strands
      (strands_started (lent (shape_in shape) sent received) (as_process initiator) purpose strands)

-- ---- turn

module _ (session shape sent received : List ℕ) (p : ℕ) (strands : List ℕ) where
  unfoldable pub turn_answer : ℕ
  turn_answer =
      ask wrong_length (is_long shape_length shape && is_long session_length session)
      then λ _. turn_question (lent (shape_in shape) sent received) (session_in session) (as_process p) strands

  unfoldable pub turn_session : List ℕ
  turn_session =
      unless_refused turn_answer session
      (session_words (session_after (lent (shape_in shape) sent received) (session_in session) (as_process p) strands))

  unfoldable pub turn_strands : List ℕ
  turn_strands =
      unless_refused turn_answer strands
      (strands_after (lent (shape_in shape) sent received) (session_in session) (as_process p) strands)

-- ---- search

module _ (shape sent received : List ℕ) (initiator purpose : ℕ) (set : List ℕ) where
  unfoldable pub search_answer : ℕ
  search_answer =
      ask wrong_length (is_long shape_length shape && is_long set_length set)
      then λ _. search_question (lent (shape_in shape) sent received) (as_process initiator) purpose

  -- the set on which everybody ended
  unfoldable pub search_set : List ℕ
  search_set =
      unless_refused search_answer set (set_words (set_searched (lent (shape_in shape) sent received) (as_process initiator) purpose))

  -- how many checkpoints are newer than it
  unfoldable pub search_newer : ℕ → ℕ
  search_newer before =
      unless_refused search_answer before (newer_searched (lent (shape_in shape) sent received) (as_process initiator) purpose)

  unfoldable pub search_rounds : ℕ → ℕ
  search_rounds before =
      unless_refused search_answer before (rounds_searched (lent (shape_in shape) sent received) (as_process initiator) purpose)

  unfoldable pub search_messages : ℕ → ℕ
  search_messages before =
      unless_refused search_answer before (messages_searched (lent (shape_in shape) sent received) (as_process initiator) purpose)
