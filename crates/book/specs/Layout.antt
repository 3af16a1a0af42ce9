-- Document 01, "The book": the book as numbers. n; then process by process its count of checkpoints, followed by its own
-- checkpoints; for each, oldest first, the messages sent to every other process in rising order, then those received from every
-- other in rising order.
use Rattle.std.specs.Prelude.{List, [], ◌∷◌, ◌++◌, ℕ, zero, suc, ◌-◌, ◌*◌, length, take, drop}

-- a process is its checkpoints, oldest first; a checkpoint is its counters, those sent before those received
pub record Book : Type 0 where
  pub n : ℕ
  pub processes : List (List (List ℕ))

-- a checkpoint has a sent and a received counter for every other process
abbrev pub width : ℕ → ℕ
width n = 2 * (n - 1)

-- the checkpoints one after another
unfoldable pub joined : List (List ℕ) → List ℕ
joined [] = []
joined (counters ∷ more) = counters ++ joined more

unfoldable pub numbers_of_processes : List (List (List ℕ)) → List ℕ
numbers_of_processes [] = []
numbers_of_processes (checkpoints ∷ more) = length checkpoints ∷ (joined checkpoints ++ numbers_of_processes more)

-- the numbers of a book, in its order
abbrev pub book_numbers : Book → List ℕ
book_numbers book = book.n ∷ numbers_of_processes book.processes

-- and back: so many checkpoints of so many counters each
unfoldable pub checkpoints_in : ℕ → ℕ → List ℕ → List (List ℕ)
checkpoints_in zero w vs = []
checkpoints_in (suc count) w vs = take w vs ∷ checkpoints_in count w (drop w vs)

unfoldable pub processes_in : ℕ → ℕ → List ℕ → List (List (List ℕ))
processes_in zero w vs = []
processes_in (suc left) w [] = []
processes_in (suc left) w (count ∷ vs) = checkpoints_in count w vs ∷ processes_in left w (drop (count * w) vs)

-- the book that numbers make
abbrev pub book_in : List ℕ → Book
book_in [] = record { n = 0; processes = [] }
book_in (n ∷ vs) = record { n = n; processes = processes_in n (width n) vs }
