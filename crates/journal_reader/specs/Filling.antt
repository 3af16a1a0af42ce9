-- What the functions of the filling pass promise one another.
use Rattle.std.specs.Prelude.{◌≡◌, Bool, true, false, List, ℕ, ◌≤◌, ◌<◌, length, get_or, Some}
use Rattle.varint.specs.Number.{read_number}
use Rattle.book.specs.Bounds.{most_checkpoints, most_bytes, entries}
use Rattle.book.specs.Tables.{shape_of}
use Rattle.book.specs.View.{first_rows}
use Rattle.journal.specs.declared.Event.{Event}
use Rattle.journal.specs.declared.Event.TheVariants.{Sent, Received, Checkpointed}
use Rattle.journal.specs.Bounds.{journal_groups, journal_largest}
use Rattle.journal.specs.Calls.{numbers_logged, numbers_end, leading_n, journal_book}
use Rattle.journal.specs.Questions.{journal_numbers_question}

-- is it a checkpoint, of whatever process?
abbrev pub is_checkpoint_event : Event → Bool
is_checkpoint_event (Sent process partner) = false
is_checkpoint_event (Received process partner) = false
is_checkpoint_event (Checkpointed process) = true

-- a row of a whole table
pub record IsRow (row : ℕ) (table : List ℕ) : Type 0 where
  pub within : row < most_checkpoints
  pub long : length table ≡ entries

-- a whole table of zeros
pub record IsClear (table : List ℕ) : Type 0 where
  pub long : length table ≡ entries
  pub zeros : (i : ℕ) → get_or table i 0 ≡ 0

-- an accepted journal, the place of its first event, the first rows of its book's processes, and clear tables
pub record ToFill (s : List ℕ) (at : ℕ) (first sent received : List ℕ) : Type 0 where
  pub short : length s ≤ most_bytes
  pub passed : journal_numbers_question (numbers_end s 0) (numbers_logged s 0).found ≡ 0
  pub leads : read_number journal_groups journal_largest s 0 ≡ Some (leading_n s, at)
  pub starts : first ≡ first_rows (shape_of (journal_book s)).counts
  pub sent_clear : IsClear sent
  pub received_clear : IsClear received
