-- Tests of a whole matrix, row by row or column by column, and news for each receiver: a matrix whose row p is what process p is told.
use Rattle.std.specs.Prelude.{Bool, not, List, ℕ, eqb}
use Rattle.book.specs.declared.Count.{Count}
use Rattle.book.specs.Bounds.{mark, most_processes}
use Rattle.lists.specs.Over.{all_to, tab}
use Rattle.consistency.specs.Known.{counters}
use Rattle.lists.specs.Pick.{pick}
use Rattle.matrix.specs.Matrix.{as_matrix, entry, row, column, not_known_row}
use Rattle.matrix.specs.Entries.{differing, same, rest_zero, none_above}

-- "diagonal and absent entries are zero"
unfoldable pub all_rest_zero : ℕ → List Count → Bool
all_rest_zero n matrix = all_to most_processes (λ j. rest_zero n j (row matrix j))

-- "all 'not known'"
unfoldable pub all_not_known : ℕ → List Count → Bool
all_not_known n matrix = all_to most_processes (λ j. same (row matrix j) (not_known_row n j))

-- "No matrix entry is above the copy's"
unfoldable pub all_none_above : List Count → List Count → Bool
all_none_above matrix copy = all_to most_processes (λ j. none_above (row matrix j) (row copy j))

-- "whose column differs from the copy": whether it does, for each process
unfoldable pub columns_differ : List Count → List Count → List Bool
columns_differ matrix copy = tab most_processes (λ p. not (same (column matrix p) (column copy p)))

-- of an invitation: one pair, naming the sender: `me` has sent p so many
abbrev pub invitations : ℕ → List Count → List Count
invitations me sent = as_matrix (λ p k. pick (eqb k me) (counters sent p) mark)

-- "with the differing entries only": to process p, of what each process k sent to it
abbrev pub polls : List Count → List Count → List Count
polls matrix copy = as_matrix (λ p k. differing (entry matrix k p) (entry copy k p))
