-- Shapes, sets, lengths, orders, lists of what to send again and pairs as words; and counters that are lent beside the tables.
use Rattle.std.specs.Prelude.{List, [], ◌∷◌, ◌++◌, ℕ, suc, get_or}
use Rattle.std.proofs.Math.Option.{Option, none, some}
use Rattle.book.specs.declared.Shape.{Shape}
use Rattle.book.specs.declared.Checkpoint.{Checkpoint}
use Rattle.book.specs.declared.Count.{Count}
use Rattle.book.specs.Bounds.{most_processes}
use Rattle.lists.specs.Over.{tab}
use Rattle.consistency.specs.Set.{chosen}
use Rattle.finder.specs.Line.{checkpoints}
use Rattle.restart.specs.declared.Order.{Order}
use Rattle.restart.specs.declared.Resend.{Resend}
use Rattle.words.specs.Words.{word, sixteen_at, shape_counts_at, matrix_length, count_words}

-- n, then sixteen counts
unfoldable pub shape_in : List ℕ → Shape
shape_in words = record { n = word words 0; counts = sixteen_at words shape_counts_at }

-- sixteen numbers as words
abbrev pub number_words : List ℕ → List ℕ
number_words numbers = tab most_processes (λ i. get_or numbers i 0)

unfoldable pub shape_words : Shape → List ℕ
shape_words shape = shape.n ∷ number_words shape.counts

-- sixteen checkpoint numbers
unfoldable pub set_in : List ℕ → List Checkpoint
set_in words = checkpoints (word words)

abbrev pub set_words : List Checkpoint → List ℕ
set_words set = tab most_processes (chosen set)

-- a pair of processes that is found, numbered from 1; zeros for none
abbrev pub pair_words : Option (ℕ × ℕ) → List ℕ
pair_words none = 0 ∷ (0 ∷ [])
pair_words (some pair) = suc pair.0 ∷ (suc pair.1 ∷ [])

-- sixteen counters lent beside the tables: no words, but of the type of a table's entries
abbrev pub counts_in : List ℕ → List Count
counts_in entries = tab {A = Count} most_processes (λ i. record { 0 = get_or entries i 0 })

-- what to send again: the first messages, and the last ones
unfoldable pub resend_words : Resend → List ℕ
resend_words resend = count_words matrix_length resend.first ++ count_words matrix_length resend.last

-- the checkpoints restarted from, how many go before, how many after, and what to send again
unfoldable pub order_words : Order → List ℕ
order_words order =
    set_words order.from ++ (number_words order.before ++ (number_words order.after ++ resend_words order.resend))
