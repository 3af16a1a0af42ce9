-- A book's bytes in parts, as the tables hold them. Processes, rows and the others of a row are counted from 0.
use Rattle.std.specs.Prelude.{List, ◌++◌, ℕ, ◌*◌, take, drop}
use Rattle.varint.specs.Number.{encode}
use Rattle.varint.specs.Sequence.{encode_all}
use Rattle.book.specs.declared.Shape.{Shape}
use Rattle.book.specs.Bounds.{row_width}
use Rattle.book.specs.Tables.{others, checkpoints_of, processes_of}
use Rattle.book.specs.Layout.{joined, numbers_of_processes}

-- the counters of a row of process j, from the k-th of the others on
unfoldable pub row_bytes : ℕ → ℕ → ℕ → ℕ → List ℕ → List ℕ
row_bytes n j row k table = encode_all (drop k (others n j (drop (row * row_width) table)))

-- a checkpoint of process j: its row in both tables
unfoldable pub checkpoint_bytes : ℕ → ℕ → ℕ → List ℕ → List ℕ → List ℕ
checkpoint_bytes n j row sent received = row_bytes n j row 0 sent ++ row_bytes n j row 0 received

-- so many checkpoints of process j from a row on
unfoldable pub checkpoints_bytes : ℕ → ℕ → ℕ → ℕ → List ℕ → List ℕ → List ℕ
checkpoints_bytes n j row count sent received =
    encode_all (joined (checkpoints_of n j count (drop (row * row_width) sent) (drop (row * row_width) received)))

-- process j with its count
unfoldable pub process_bytes : ℕ → ℕ → ℕ → ℕ → List ℕ → List ℕ → List ℕ
process_bytes n j row count sent received = encode count ++ checkpoints_bytes n j row count sent received

-- the processes from j on, whose first row is given
unfoldable pub processes_bytes : Shape → ℕ → ℕ → List ℕ → List ℕ → List ℕ
processes_bytes shape j row sent received =
    encode_all
    (numbers_of_processes
    (processes_of shape.n j (drop j (take shape.n shape.counts)) (drop (row * row_width) sent) (drop (row * row_width) received)))
