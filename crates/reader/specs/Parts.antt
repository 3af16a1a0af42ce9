-- What the pass over a part of a book promises: which question it fails first, where its numbers end, and what stands in
-- the tables where none fails. On a refusal the tables are left free: they are the pass's own.
use Rattle.std.specs.Prelude.{◌≡◌, Bool, false, ◌&&◌, List, [], ◌∷◌, ℕ, suc, ◌+◌, ◌*◌, ◌-◌, ◌≤◌, ◌<◌, length, take, drop, get_or, replicate, leb, eqb, Result, Ok, Err}
use Rattle.std.proofs.lemmas.List.Edits.{sets}
use Rattle.varint.specs.Sequence.{numbers_after}
use Rattle.book.specs.declared.Shape.{Shape}
use Rattle.book.specs.declared.Question.{Question}
use Rattle.book.specs.Bounds.{mark, most_bytes, row_width, entries}
use Rattle.book.specs.Before.{counters_before}
use Rattle.book.specs.Tables.{padded, table_row, process_rows, rows_from, shape_of, sent_table, received_table}
use Rattle.book.specs.Read.{numbers_from, book_read}
use Rattle.book.specs.Layout.{width, checkpoints_in, processes_in}
use Rattle.book.specs.InTurn.{◌then◌, ask, answer_with}
use Rattle.book.specs.Numbers.{number, by_number}
use Rattle.book.specs.Questions.{count_question}
use Rattle.book.specs.Along.{counters_question, process_question, processes_question, book_question}

-- do the numbers end where the bytes end?
abbrev pub whole_from : List ℕ → ℕ → Bool
whole_from s at = eqb (numbers_from s at).stop (length s)

-- questions 1 and 2, which ask only lengths
abbrev pub sizes_question : ℕ → ℕ → ℕ → ℕ
sizes_question bytes sent received = ask 1 (leb bytes most_bytes) then λ _. ask 2 (eqb sent entries && eqb received entries)

-- a table with nothing in it
unfoldable pub empty_table : List ℕ
empty_table = replicate entries 0

-- from an entry on, a table has only zeros
abbrev pub ClearFrom : ℕ → List ℕ → Type 0
ClearFrom start table = (i : ℕ) → start ≤ i → get_or table i 0 ≡ 0

-- a row of process j may be put at this entry of a table, and unless it is the oldest there is one before it
pub record RowClear (oldest : Bool) (n j start : ℕ) (table : List ℕ) : Type 0 where
  pub present : j < n
  pub most : n ≤ 16
  pub whole : length table ≡ entries
  pub inside : start + row_width ≤ entries
  pub clear : ClearFrom start table
  pub later : oldest ≡ false → row_width ≤ start

-- so many rows of process j may be put from row `first` on
pub record RowsClear (n j first count : ℕ) (table : List ℕ) : Type 0 where
  pub present : j < n
  pub most : n ≤ 16
  pub whole : length table ≡ entries
  pub inside : first + count ≤ 256
  pub clear : ClearFrom (first * row_width) table

-- the question that a part fails first, 0 for none
abbrev pub failed : {A : Type 0} → Result A Question → ℕ
failed (Ok value) = 0
failed (Err question) = number question

-- the counters of one row were taken, up to the place `next`
pub record RowTaken (oldest zeros : Bool) (n j start : ℕ) (s : List ℕ) (at : ℕ) (r : Result ℕ Question) (table₀ table : List ℕ) : Type 0 where
  pub asked : failed r ≡ counters_question mark zeros (counters_before oldest n j start table₀) (numbers_from s at).found
  pub rest : (next : ℕ) → r ≡ Ok next → numbers_from s next ≡ numbers_after (n - 1) (numbers_from s at)
  pub read : (next : ℕ) → r ≡ Ok next → table ≡ sets table₀ start (table_row j (take (n - 1) (numbers_from s at).found))

-- a table with the rows of process j put into it; `half` takes a checkpoint's sent or its received counters
abbrev pub with_rows : (List ℕ → List ℕ) → ℕ → ℕ → ℕ → ℕ → List ℕ → List ℕ → List ℕ
with_rows half n j first count vs table = sets table (first * row_width) (process_rows half j (checkpoints_in count (width n) vs))

-- the checkpoints of one process were taken
pub record CheckpointsTaken (n j first count : ℕ) (s : List ℕ) (at : ℕ) (r : Result ℕ Question) (sent₀ received₀ sent received : List ℕ) : Type 0 where
  pub asked : failed r ≡ process_question mark n count (numbers_from s at).found
  pub rest : (next : ℕ) → r ≡ Ok next → numbers_from s next ≡ numbers_after (count * width n) (numbers_from s at)
  pub sent_read : (next : ℕ) → r ≡ Ok next → sent ≡ with_rows (take (n - 1)) n j first count (numbers_from s at).found sent₀
  pub received_read : (next : ℕ) → r ≡ Ok next → received ≡ with_rows (drop (n - 1)) n j first count (numbers_from s at).found received₀

-- the questions of one process: of its count, then of its checkpoints
abbrev pub next_process : ℕ → ℕ → List ℕ → ℕ
next_process n sum [] = 3
next_process n sum (count ∷ vs) = count_question sum count then λ _. process_question mark n count vs

-- one process was taken: its count, and its checkpoints
pub record ProcessTaken (n j sum : ℕ) (s : List ℕ) (at : ℕ) (r : Result (ℕ × ℕ) Question) (sent₀ received₀ sent received : List ℕ) : Type 0 where
  pub asked : failed r ≡ next_process n sum (numbers_from s at).found
  pub head : (count next : ℕ) → r ≡ Ok (count, next) → (numbers_from s at).found ≡ count ∷ drop 1 (numbers_from s at).found
  pub rest : (count next : ℕ) → r ≡ Ok (count, next) → numbers_from s next ≡ numbers_after (suc (count * width n)) (numbers_from s at)
  pub within : (count next : ℕ) → r ≡ Ok (count, next) → (1 ≤ count) × (sum + count ≤ 256)
  pub enough : (count next : ℕ) → r ≡ Ok (count, next) → count * width n ≤ length (drop 1 (numbers_from s at).found)
  pub sent_read : (count next : ℕ) → r ≡ Ok (count, next) → sent ≡ with_rows (take (n - 1)) n j sum count (drop 1 (numbers_from s at).found) sent₀
  pub received_read : (count next : ℕ) → r ≡ Ok (count, next) → received ≡ with_rows (drop (n - 1)) n j sum count (drop 1 (numbers_from s at).found) received₀

-- an answer, and two tables where no question fails
pub record Taken (question : ℕ) (shape : Shape) (sent₁ received₁ : List ℕ) (r : Result Shape Question) (sent received : List ℕ) : Type 0 where
  pub answered : by_number r ≡ answer_with question shape
  pub sent_read : question ≡ 0 → sent ≡ sent₁
  pub received_read : question ≡ 0 → received ≡ received₁

-- the n processes that follow a place were taken
abbrev pub processes_after : ℕ → List ℕ → ℕ → List (List (List ℕ))
processes_after n s at = processes_in n (width n) (numbers_from s at).found

abbrev pub ProcessesTaken : ℕ → List ℕ → ℕ → Result Shape Question → List ℕ → List ℕ → Type 0
ProcessesTaken n s at r sent received =
    Taken (processes_question mark n n 0 (whole_from s at) (numbers_from s at).found)
    (shape_of (record { n = n; processes = processes_after n s at }))
    (padded entries (rows_from (take (n - 1)) 0 (processes_after n s at)))
    (padded entries (rows_from (drop (n - 1)) 0 (processes_after n s at)))
    r sent received

-- the whole book was taken
abbrev pub BookTaken : List ℕ → Result Shape Question → List ℕ → List ℕ → Type 0
BookTaken s r sent received =
    Taken (book_question mark (whole_from s 0) (numbers_from s 0).found) (shape_of (book_read s)) (sent_table (book_read s))
    (received_table (book_read s)) r sent received
