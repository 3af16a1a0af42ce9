-- What questions 3 to 9 ask of a book, each as a fact of the book as a whole and not along its bytes.
use Rattle.std.specs.Prelude.{◌≡◌, List, [], ℕ, suc, ◌+◌, ◌-◌, ◌≤◌, ◌<◌, length, get_or}
use Rattle.book.specs.Bounds.{most_processes, most_checkpoints, mark}
use Rattle.book.specs.Tables.{counts_of}
use Rattle.book.specs.View.{sum}
use Rattle.book.specs.Layout.{width, Book}

-- process j, its checkpoint r and that checkpoint's counter k, each counted from 0
abbrev pub process : Book → ℕ → List (List ℕ)
process book j = get_or book.processes j []

abbrev pub checkpoint : Book → ℕ → ℕ → List ℕ
checkpoint book j r = get_or (process book j) r []

abbrev pub counter : Book → ℕ → ℕ → ℕ → ℕ
counter book j r k = get_or (checkpoint book j r) k 0

pub record WellFormed (book : Book) : Type 0 where
  -- 4: n is from 1 to 16
  pub size : (1 ≤ book.n) × (book.n ≤ most_processes)
  -- there are n processes
  pub processes : length book.processes ≡ book.n
  -- 5: each has a checkpoint at least, and there are at most 256 in all
  pub some : (j : ℕ) → j < book.n → 1 ≤ length (process book j)
  pub few : sum (counts_of book.processes) ≤ most_checkpoints
  -- a checkpoint has a sent and a received counter for every other process
  pub counters : (j r : ℕ) → j < book.n → r < length (process book j) → length (checkpoint book j r) ≡ width book.n
  -- 6: no counter is the mark
  pub known : (j r k : ℕ) → j < book.n → r < length (process book j) → k < width book.n → counter book j r k < mark
  -- 7: an oldest checkpoint has received nothing
  pub oldest_received : (j k : ℕ) → j < book.n → k < book.n - 1 → counter book j 0 (book.n - 1 + k) ≡ 0
  -- 8: no counter is lower than the same counter one checkpoint before
  pub rising : (j r k : ℕ) → j < book.n → suc r < length (process book j) → k < width book.n → counter book j r k ≤ counter book j (suc r) k
