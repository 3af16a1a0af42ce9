-- What crosses to other languages as words: numbers of 64 bits in slices of a fixed length. A word is read at its place; parts
-- of a value lie one after another.
use Rattle.std.specs.Prelude.{Bool, List, ℕ, ◌+◌, ◌*◌, ◌%◌, length, get_or, ltb, eqb}
use Rattle.book.specs.declared.Count.{Count}
use Rattle.book.specs.Bounds.{most_processes, mark}
use Rattle.lists.specs.Over.{all_to, tab}
use Rattle.consistency.specs.Known.{counters}
use Rattle.machine.specs.Named.{tally_bound}

-- The lengths of the slices; each part begins where the one before it ends. Those of states and sessions stand with their words.

-- a shape: n, then how many checkpoints each process has
abbrev pub shape_counts_at : ℕ
shape_counts_at = 1

abbrev pub shape_length : ℕ
shape_length = shape_counts_at + most_processes

abbrev pub set_length : ℕ
set_length = most_processes

abbrev pub pair_length : ℕ
pair_length = 2

abbrev pub lengths_length : ℕ
lengths_length = most_processes

-- the counters of a matrix, a row for each sender
abbrev pub matrix_length : ℕ
matrix_length = most_processes * most_processes

-- what to send again: the first messages, and the last ones
abbrev pub resend_last_at : ℕ
resend_last_at = matrix_length

abbrev pub resend_length : ℕ
resend_length = resend_last_at + matrix_length

-- an order: the checkpoints restarted from, how many go before, how many after, and what to send again
abbrev pub order_before_at : ℕ
order_before_at = set_length

abbrev pub order_after_at : ℕ
order_after_at = order_before_at + most_processes

abbrev pub order_resend_at : ℕ
order_resend_at = order_after_at + most_processes

abbrev pub order_length : ℕ
order_length = order_resend_at + resend_length

-- a slice of words, or of sixteen counters lent beside the tables, of another length is refused by this number, before every
-- question
abbrev pub wrong_length : ℕ
wrong_length = 100

-- has such a slice its length?
abbrev pub is_long : ℕ → List ℕ → Bool
is_long k words = eqb (length words) k

abbrev pub word : List ℕ → ℕ → ℕ
word words i = get_or words i 0

-- k words from a place on are each below a bound
unfoldable pub all_below : ℕ → List ℕ → ℕ → ℕ → Bool
all_below bound words at k = all_to k (λ i. ltb (word words (at + i)) bound)

-- A counter is at most the mark. A word that is more is none: whoever takes one asks too that it is below this.
abbrev pub counter_bound : ℕ
counter_bound = mark + 1

abbrev pub counter_in : ℕ → ℕ
counter_in w = w % counter_bound

-- likewise a count of rounds or of deliveries
abbrev pub tally_in : ℕ → ℕ
tally_in w = w % tally_bound

-- sixteen numbers, and k counters, from a place on
abbrev pub sixteen_at : List ℕ → ℕ → List ℕ
sixteen_at words at = tab most_processes (λ i. word words (at + i))

unfoldable pub counts_at : ℕ → List ℕ → ℕ → List Count
counts_at k words at = tab {A = Count} k (λ i. record { 0 = counter_in (word words (at + i)) })

-- k counters as words
abbrev pub count_words : ℕ → List Count → List ℕ
count_words k counts = tab k (counters counts)
