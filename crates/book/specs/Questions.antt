-- Document 01, "Questions put in turn": questions 1 to 9, each by itself. Question 3, "Is the number whole, shortest, at
-- most 5 bytes and 4,294,967,295?", is whether a number stands at a place at all: `read_number` of the crate `varint`.
use Rattle.std.specs.Prelude.{Bool, true, false, ◌&&◌, List, [], ◌∷◌, ◌++◌, ℕ, zero, suc, ◌+◌, ◌*◌, length, take, drop, get_or, ltb, leb, eqb}
use Rattle.book.specs.Lent.{Tables}
use Rattle.book.specs.Bounds.{most_processes, most_checkpoints, most_bytes, row_width, entries}
use Rattle.book.specs.InTurn.{◌then◌, ask}

-- 1: are there at most 65,536 book bytes?
abbrev pub bytes_question : List ℕ → ℕ
bytes_question bytes = ask 1 (leb (length bytes) most_bytes)

-- 2: has each table 4,096 entries?
abbrev pub length_question : List ℕ → List ℕ → ℕ
length_question sent received = ask 2 (eqb (length sent) entries && eqb (length received) entries)

-- 4: is n from 1 to 16?
abbrev pub size_question : ℕ → ℕ
size_question n = ask 4 (leb 1 n && leb n most_processes)

-- 5: is the count at least 1 and the sum so far at most 256?
abbrev pub count_question : ℕ → ℕ → ℕ
count_question sum count = ask 5 (leb 1 count && leb (sum + count) most_checkpoints)

-- question 7 asks only counters that must be zero
abbrev pub zero_if_asked : Bool → ℕ → Bool
zero_if_asked true v = eqb v 0
zero_if_asked false v = true

-- 6: is the counter other than the mark (and below it: no wider number passes)? 7: is it zero, where `zeros` says that it must
-- be? 8: is it no lower than the same counter one checkpoint before?
unfoldable pub counter_question : ℕ → Bool → ℕ → ℕ → ℕ
counter_question mark zeros before v =
    ask 6 (ltb v mark) then λ _. ask 7 (zero_if_asked zeros v) then λ _. ask 8 (leb before v)

-- 9: does nothing follow? No number is left, and the numbers end where the bytes end.
abbrev pub nothing_follows : Bool → List ℕ → Bool
nothing_follows ended [] = ended
nothing_follows ended (v ∷ vs) = false

unfoldable pub all_zero : List ℕ → Bool
all_zero [] = true
all_zero (v ∷ vs) = eqb v 0 && all_zero vs

-- the unused entries of the rows of process j: its own column, and the columns of absent processes
unfoldable pub unused_of : ℕ → ℕ → ℕ → List ℕ → List ℕ
unused_of n j zero table = []
unused_of n j (suc count) table =
    get_or table j 0 ∷ (drop n (take row_width table) ++ unused_of n j count (drop row_width table))

-- and the rows after the last checkpoint
unfoldable pub unused_from : ℕ → ℕ → List ℕ → List ℕ → List ℕ
unused_from n j [] table = table
unused_from n j (count ∷ counts) table = unused_of n j count table ++ unused_from n (suc j) counts (drop (count * row_width) table)

-- 9: in tables, is everything unused zero?
abbrev pub unused_zero : Tables → Bool
unused_zero tables =
    all_zero (drop tables.shape.n tables.shape.counts)
    && (all_zero (unused_from tables.shape.n 0 (take tables.shape.n tables.shape.counts) tables.sent)
    && all_zero (unused_from tables.shape.n 0 (take tables.shape.n tables.shape.counts) tables.received))
