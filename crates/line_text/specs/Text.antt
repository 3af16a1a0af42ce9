-- Document 01, "Program `line`": the text that it prints, as bytes.
use Rattle.std.specs.Prelude.{true, false, List, [], ◌∷◌, ◌++◌, ℕ, zero, suc, ◌+◌, ◌/◌, ◌%◌, get_or, ltb}
use Rattle.book.specs.declared.Checkpoint.{Checkpoint}
use Rattle.line_text.specs.Ascii.{ascii}

-- the digits of n, without leading zeros, in at most `fuel` digits
unfoldable pub digits_of : ℕ → ℕ → List ℕ
digits_of zero n = []
digits_of (suc fuel) n =
    elim (ltb n 10) [ true ↦ (48 + n) ∷ [] | false ↦ digits_of fuel (n / 10) ++ ((48 + n % 10) ∷ []) ]

-- a number of at most 64 bits: twenty digits are the most
unfoldable pub decimal : ℕ → List ℕ
decimal n = digits_of 20 n

-- a space and the number
unfoldable pub spaced : ℕ → List ℕ
spaced n = ascii " " ++ decimal n

-- a line: a word, a space and a number
unfoldable pub labelled : List ℕ → ℕ → List ℕ
labelled word n = word ++ spaced n ++ ascii "\n"

-- a space and the checkpoint number of each of the first n processes
unfoldable pub checkpoint_numbers : ℕ → List Checkpoint → List ℕ
checkpoint_numbers zero set = []
checkpoint_numbers (suc j) set = checkpoint_numbers j set ++ spaced (get_or set j (record { 0 = 0 })).0

-- the number of processes, and the line
unfoldable pub first_lines : ℕ → List Checkpoint → List ℕ
first_lines n set = labelled (ascii "processes") n ++ ascii "line" ++ checkpoint_numbers n set ++ ascii "\n"

-- an accepted book: its five lines
unfoldable pub found_text : ℕ → List Checkpoint → ℕ → ℕ → ℕ → List ℕ
found_text n set passed rounds messages =
    first_lines n set ++ labelled (ascii "passed") passed ++ labelled (ascii "rounds") rounds ++ labelled (ascii "messages") messages

-- a refused book
unfoldable pub refused_text : ℕ → List ℕ
refused_text question = labelled (ascii "refused") question
