-- Document 01, "The book": the bounds.
use Rattle.std.specs.Prelude.{ℕ}

-- n 1 to 16
abbrev pub most_processes : ℕ
most_processes = 16

-- 256 checkpoints in all
abbrev pub most_checkpoints : ℕ
most_checkpoints = 256

-- 65,536 bytes
abbrev pub most_bytes : ℕ
most_bytes = 65536

-- a number has at most 5 bytes and is at most 4,294,967,295
abbrev pub groups : ℕ
groups = 5

abbrev pub largest : ℕ
largest = 4294967295

-- the mark for "not known", never a counter in a book or message
abbrev pub mark : ℕ
mark = 4294967295

-- a row of 16 for a checkpoint
abbrev pub row_width : ℕ
row_width = 16

-- a table has 4,096 numbers
abbrev pub entries : ℕ
entries = 4096
