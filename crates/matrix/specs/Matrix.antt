-- Document 01, "A search": what is known of sent counters. A row of sixteen entries, one for each process, and a matrix of
-- sixteen rows: "for every ordered pair, the sender's candidate's sent counter or 'not known'". Senders go down, receivers
-- across; processes count from 0.
use Rattle.std.specs.Prelude.{Bool, ◌&&◌, not, List, ℕ, ◌+◌, ◌*◌, ◌/◌, ◌%◌, ltb, eqb}
use Rattle.book.specs.declared.Count.{Count}
use Rattle.book.specs.Bounds.{mark, most_processes}
use Rattle.lists.specs.Over.{tab}
use Rattle.lists.specs.Pick.{pick}
use Rattle.consistency.specs.Known.{counters}

-- sixteen entries, and sixteen rows of them
unfoldable pub as_row : (ℕ → ℕ) → List Count
as_row f = tab {A = Count} most_processes (λ p. record { 0 = f p })

unfoldable pub as_matrix : (ℕ → ℕ → ℕ) → List Count
as_matrix f = tab {A = Count} 256 (λ i. record { 0 = f (i / 16) (i % 16) })

-- the entry for what process j sent to process p
abbrev pub entry : List Count → ℕ → ℕ → ℕ
entry matrix j p = counters matrix (j * 16 + p)

-- what process j sent to each, and what each sent to process p
abbrev pub row : List Count → ℕ → List Count
row matrix j = as_row (λ p. entry matrix j p)

abbrev pub column : List Count → ℕ → List Count
column matrix p = as_row (λ j. entry matrix j p)

-- the matrix with other entries in process j's row
abbrev pub with_row : List Count → ℕ → List Count → List Count
with_row matrix j entries = as_matrix (λ i p. pick (eqb i j) (counters entries p) (entry matrix i p))

-- an ordered pair of two processes that there are; the other entries are "the diagonal and the entries of absent processes"
abbrev pub is_pair : ℕ → ℕ → ℕ → Bool
is_pair n j p = ltb j n && (ltb p n && not (eqb j p))

-- "not known" everywhere, but "the diagonal and the entries of absent processes are zero"
abbrev pub not_known_at : ℕ → ℕ → ℕ → ℕ
not_known_at n j p = pick (is_pair n j p) mark 0

-- of a row of process j; and of a column, since a pair is one either way round
abbrev pub not_known_row : ℕ → ℕ → List Count
not_known_row n j = as_row (λ p. not_known_at n j p)

abbrev pub not_known_matrix : ℕ → List Count
not_known_matrix n = as_matrix (λ j p. not_known_at n j p)
