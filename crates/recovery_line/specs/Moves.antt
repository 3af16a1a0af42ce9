-- The exported calls on moves: move the line, and the restart order alone.
use Rattle.std.specs.Prelude.{◌&&◌, List, ℕ}
use Rattle.book.specs.Lent.{lent}
use Rattle.book.specs.InTurn.{◌then◌, ask, unless_refused}
use Rattle.restart.specs.Calls.{move_question, order_given, shape_moved, sent_moved, received_moved}
use Rattle.words.specs.Words.{shape_length, order_length, wrong_length, is_long}
use Rattle.words.specs.Plain.{shape_in, shape_words, order_words}

module _ (shape sent received : List ℕ) (purpose : ℕ) (order : List ℕ) where
  unfoldable pub move_answer : ℕ
  move_answer =
      ask wrong_length (is_long shape_length shape && is_long order_length order)
      then λ _. move_question (lent (shape_in shape) sent received) purpose

  unfoldable pub move_shape : List ℕ
  move_shape = unless_refused move_answer shape (shape_words (shape_moved (lent (shape_in shape) sent received) purpose))

  unfoldable pub move_sent : List ℕ
  move_sent = unless_refused move_answer sent (sent_moved (lent (shape_in shape) sent received) purpose)

  unfoldable pub move_received : List ℕ
  move_received = unless_refused move_answer received (received_moved (lent (shape_in shape) sent received) purpose)

  -- the order, with the move or without it
  unfoldable pub move_order : List ℕ
  move_order = unless_refused move_answer order (order_words (order_given (lent (shape_in shape) sent received) purpose))
