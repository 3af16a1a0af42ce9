-- Document 01, "The book": two lent tables, sent and received, of 4,096 numbers each: one row of 16 for a checkpoint,
-- processes in order, oldest first; column p is partner p. Counts of absent processes, unused rows and columns, and a
-- process's own column are zero. Processes and partners are counted from 0 here.
use Rattle.std.specs.Prelude.{List, [], ◌∷◌, ◌++◌, Bool, true, false, ℕ, zero, suc, ◌+◌, ◌-◌, ◌*◌, ltb, length, take, drop, replicate}
use Rattle.book.specs.Lent.{Tables, lent}
use Rattle.book.specs.declared.Shape.{Shape}
use Rattle.book.specs.Bounds.{most_processes, row_width, entries}
use Rattle.book.specs.Layout.{Book}

-- zeros up to a length
abbrev pub padded : ℕ → List ℕ → List ℕ
padded long l = l ++ replicate (long - length l) 0

-- the row of process j with these counters for the others: its own column and those of absent processes are zero
unfoldable pub table_row : ℕ → List ℕ → List ℕ
table_row j counters = padded row_width (take j counters ++ 0 ∷ drop j counters)

-- the rows of process j; `half` takes a checkpoint's sent or its received counters
unfoldable pub process_rows : (List ℕ → List ℕ) → ℕ → List (List ℕ) → List ℕ
process_rows half j [] = []
process_rows half j (counters ∷ more) = table_row j (half counters) ++ process_rows half j more

unfoldable pub rows_from : (List ℕ → List ℕ) → ℕ → List (List (List ℕ)) → List ℕ
rows_from half j [] = []
rows_from half j (checkpoints ∷ more) = process_rows half j checkpoints ++ rows_from half (suc j) more

abbrev pub sent_table : Book → List ℕ
sent_table book = padded entries (rows_from (take (book.n - 1)) 0 book.processes)

abbrev pub received_table : Book → List ℕ
received_table book = padded entries (rows_from (drop (book.n - 1)) 0 book.processes)

unfoldable pub counts_of : List (List (List ℕ)) → List ℕ
counts_of [] = []
counts_of (checkpoints ∷ more) = length checkpoints ∷ counts_of more

-- n and sixteen counts go with the rows
abbrev pub shape_of : Book → Shape
shape_of book = record { n = book.n; counts = padded most_processes (counts_of book.processes) }

-- all of them
abbrev pub tables_of : Book → Tables
tables_of book = lent (shape_of book) (sent_table book) (received_table book)

-- of a row of process j, the entries for every other process in rising order; the row begins the list
unfoldable pub others : ℕ → ℕ → List ℕ → List ℕ
others n j row = take j row ++ drop (suc j) (take n row)

-- the column of the k-th of the others, for whoever goes through a row: those after process j stand one further
abbrev pub shifted : Bool → ℕ → ℕ
shifted true k = k
shifted false k = k + 1

unfoldable pub partner_column : ℕ → ℕ → ℕ
partner_column j k = shifted (ltb k j) k

-- the checkpoints of process j, whose rows begin the two lists
unfoldable pub checkpoints_of : ℕ → ℕ → ℕ → List ℕ → List ℕ → List (List ℕ)
checkpoints_of n j zero sent received = []
checkpoints_of n j (suc count) sent received =
    (others n j sent ++ others n j received) ∷ checkpoints_of n j count (drop row_width sent) (drop row_width received)

unfoldable pub processes_of : ℕ → ℕ → List ℕ → List ℕ → List ℕ → List (List (List ℕ))
processes_of n j [] sent received = []
processes_of n j (count ∷ counts) sent received =
    checkpoints_of n j count sent received
    ∷ processes_of n (suc j) counts (drop (count * row_width) sent) (drop (count * row_width) received)

-- the book that tables hold
abbrev pub book_of : Tables → Book
book_of tables =
    let shape : Shape = tables.shape in
    record {
      n = shape.n;
      processes = processes_of shape.n 0 (take shape.n shape.counts) tables.sent tables.received;
    }
