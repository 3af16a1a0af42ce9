-- The exported calls on sets and the line: test a set, test one checkpoint, find the line.
use Rattle.std.specs.Prelude.{◌&&◌, List, ℕ}
use Rattle.book.specs.Lent.{lent}
use Rattle.book.specs.Bounds.{most_processes}
use Rattle.book.specs.InTurn.{◌then◌, ask, unless_refused}
use Rattle.book.specs.Check.{tables_question}
use Rattle.lists.specs.Over.{numbered}
use Rattle.line_theory.specs.Sets.{first_fault}
use Rattle.line_theory.specs.OfTables.{view_of}
use Rattle.consistency.specs.Set.{chosen, test_question}
use Rattle.consistency.specs.Known.{counters, column_question, offending}
use Rattle.finder.specs.Line.{line_found, passed_found}
use Rattle.words.specs.Words.{shape_length, set_length, pair_length, wrong_length, is_long}
use Rattle.words.specs.Plain.{shape_in, set_in, set_words, pair_words, counts_in}

-- ---- test a set

module _ (shape sent received set pair : List ℕ) where
  unfoldable pub test_answer : ℕ
  test_answer =
      ask wrong_length (is_long shape_length shape && (is_long set_length set && is_long pair_length pair))
      then λ _. test_question (lent (shape_in shape) sent received) (set_in set)

  -- the first pair at fault; zeros where the set is consistent
  unfoldable pub test_pair : List ℕ
  test_pair =
      unless_refused test_answer pair
      (pair_words (first_fault (view_of (lent (shape_in shape) sent received)) (chosen (set_in set))))

-- ---- test one checkpoint

module _ (shape sent received : List ℕ) (process checkpoint : ℕ) (known : List ℕ) where
  unfoldable pub column_answer : ℕ
  column_answer =
      ask wrong_length (is_long shape_length shape && is_long most_processes known)
      then λ _. column_question (lent (shape_in shape) sent received) process checkpoint

  -- the lowest partner that offends; 0 for none
  unfoldable pub column_partner : ℕ → ℕ
  column_partner before =
      unless_refused column_answer before
      (numbered (offending (lent (shape_in shape) sent received) process checkpoint (counters (counts_in known))))

-- ---- find the line

module _ (shape sent received line : List ℕ) where
  unfoldable pub find_answer : ℕ
  find_answer =
      ask wrong_length (is_long shape_length shape && is_long set_length line)
      then λ _. tables_question (lent (shape_in shape) sent received)

  unfoldable pub find_line : List ℕ
  find_line = unless_refused find_answer line (set_words (line_found (lent (shape_in shape) sent received)))

  unfoldable pub find_passed : ℕ → ℕ
  find_passed before = unless_refused find_answer before (passed_found (lent (shape_in shape) sent received))
