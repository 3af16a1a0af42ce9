-- What lies in a whole table: the rows of a process, those of all processes. Processes are counted from 0 here.
use Rattle.std.specs.Prelude.{◌≡◌, List, ℕ, ◌+◌, ◌≤◌, ◌<◌, length, take}
use Rattle.book.specs.Bounds.{most_processes, most_checkpoints, entries}
use Rattle.book.specs.declared.TableRows.{TableRows}
use Rattle.book.specs.View.{sum, first_rows}

-- so many rows of process j from row `first` on
pub record RowsFit (n j first count : ℕ) (table : List ℕ) : Type 0 where
  pub present : j < n
  pub most : n ≤ most_processes
  pub inside : first + count ≤ most_checkpoints
  pub whole : length table ≡ entries

-- the rows of all processes
pub record BookFits (n : ℕ) (counts table : List ℕ) : Type 0 where
  pub most : n ≤ most_processes
  pub inside : sum (take n counts) ≤ most_checkpoints
  pub whole : length table ≡ entries

-- the first rows of a shape's processes, all within a whole table
pub record Placed (rows : TableRows) : Type 0 where
  pub starts : rows.first ≡ first_rows rows.shape.counts
  pub inside : sum rows.shape.counts ≤ most_checkpoints
