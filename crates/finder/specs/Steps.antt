-- The finder's steps: what its functions are given beside a set of a book, and what they promise one another.
use Rattle.std.specs.Prelude.{◌≡◌, Bool, true, false, not, ◌||◌, List, ℕ, ◌+◌, ◌-◌, ◌*◌, ◌≤◌, ◌<◌, length, get_or}
use Rattle.book.specs.declared.Checkpoint.{Checkpoint}
use Rattle.book.specs.declared.TableRows.{TableRows}
use Rattle.book.specs.Bounds.{most_processes, most_checkpoints, row_width, entries}
use Rattle.book.specs.View.{first_row, count}
use Rattle.book.specs.Fits.{Placed}
use Rattle.line_theory.specs.Sets.{View, received_more}
use Rattle.line_theory.specs.Search.{permitted, sent_to}
use Rattle.consistency.specs.Set.{chosen}

-- the checkpoints of a set, of absent processes, are zero
abbrev pub AbsentZero : TableRows → List Checkpoint → Type 0
AbsentZero rows set = (p : ℕ) → rows.shape.n ≤ p → chosen set p ≡ 0

-- the first rows of a book, and a set of it
pub record Named (rows : TableRows) (c : ℕ → ℕ) : Type 0 where
  pub placed : Placed rows
  pub most : rows.shape.n ≤ most_processes
  pub some : (j : ℕ) → j < rows.shape.n → 1 ≤ c j
  pub among : (j : ℕ) → j < rows.shape.n → c j ≤ count rows.shape j

-- one checkpoint of each of n processes, in two ways
abbrev pub SameSet : ℕ → (ℕ → ℕ) → (ℕ → ℕ) → Type 0
SameSet n c d = (j : ℕ) → j < n → c j ≡ d j

-- the row of process j's checkpoint, of rows kept for all processes
abbrev pub row_of : List ℕ → ℕ → ℕ
row_of at j = get_or at j 0

-- the checkpoint that lies there
abbrev pub set_at : List ℕ → List ℕ → ℕ → ℕ
set_at counts at j = row_of at j + 1 - first_row counts j

-- The tables with a row of theirs in place of a checkpoint number: what is said of a set is said of its rows.
abbrev pub by_row : ℕ → List ℕ → List ℕ → View
by_row n sent received = record {
  n = n;
  count = λ j. most_checkpoints;
  S = λ j row p. get_or sent (row * row_width + p) 0;
  R = λ j row p. get_or received (row * row_width + p) 0;
}

-- whole tables, and a row of theirs for each of n processes
pub record RowsGiven (n : ℕ) (sent received at : List ℕ) : Type 0 where
  pub most : n ≤ most_processes
  pub in_sent : length sent ≡ entries
  pub in_received : length received ≡ entries
  pub rows : (j : ℕ) → j < n → row_of at j < most_checkpoints

-- rows and flags of sixteen processes; of a list behind a reference this has to be said
abbrev pub ForSixteen : List ℕ → List Bool → Type 0
ForSixteen at flags = (length at ≡ most_processes) × (length flags ≡ most_processes)

-- process j's checkpoint is not permitted in a set
abbrev pub must_step_back : View → (ℕ → ℕ) → ℕ → Bool
must_step_back v c j = not (permitted v.n (v.R j (c j)) (sent_to v c j))

-- a flag of a process, which counts from 0
abbrev pub flagged : List Bool → ℕ → Bool
flagged flags j = get_or flags j false

-- exactly those processes are flagged that must step back
abbrev pub AreFlags : View → (ℕ → ℕ) → (ℕ → Bool) → Type 0
AreFlags v c flags = (j : ℕ) → j < v.n → flags j ≡ must_step_back v c j

-- flagged are, beside those that were, those whose checkpoint received more from process j than j's has sent
abbrev pub FlaggedBeside : View → (ℕ → ℕ) → ℕ → (ℕ → Bool) → (ℕ → Bool) → Type 0
FlaggedBeside v c j flags flags' = (p : ℕ) → p < v.n → flags' p ≡ (flags p || received_more v c p j)

-- one step back of process j
pub record SteppedBack (v : View) (j : ℕ) (c c' : ℕ → ℕ) (flags flags' : ℕ → Bool) : Type 0 where
  pub back : c' j + 1 ≡ c j
  pub others : (p : ℕ) → (p ≡ j → ⊥) → c' p ≡ c p
  pub own : flags' j ≡ must_step_back v c' j
  pub beside : (p : ℕ) → p < v.n → (p ≡ j → ⊥) → flags' p ≡ (flags p || received_more v c' p j)

-- the first flagged process of n, or n for none
pub record IsFirstFlagged (n : ℕ) (flags : ℕ → Bool) (j : ℕ) : Type 0 where
  pub within : j ≤ n
  pub here : j < n → flags j ≡ true
  pub before : (i : ℕ) → i < j → flags i ≡ false
