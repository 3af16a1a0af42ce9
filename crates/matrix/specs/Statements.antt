-- Facts about rows and the matrix, for every index and entry. A row has sixteen entries whatever n is, so each of them holds
-- for every n.
use Rattle.std.specs.Prelude.{◌≡◌, true, List, ◌↔◌, ℕ, ◌≤◌, ◌<◌, eqb}
use Rattle.book.specs.declared.Count.{Count}
use Rattle.book.specs.Bounds.{mark, most_processes}
use Rattle.consistency.specs.Known.{counters}
use Rattle.lists.specs.Pick.{pick}
use Rattle.matrix.specs.Matrix.{as_row, as_matrix, entry, row, column, with_row}
use Rattle.matrix.specs.Entries.{diff, patch, same, all_lower}

-- A matrix made of a function has its values as entries, and so has a row.
abbrev pub EntriesOfFunction : Type 0
EntriesOfFunction =
    ((f : ℕ → ℕ → ℕ) (j p : ℕ) → j < most_processes → p < most_processes → entry (as_matrix f) j p ≡ f j p)
    × ((f : ℕ → ℕ) (p : ℕ) → p < most_processes → counters (as_row f) p ≡ f p)

-- With another row of process j, that row has the new entries.
abbrev pub RowWithRow : Type 0
RowWithRow =
    (matrix entries : List Count) (j p : ℕ) → j < most_processes → p < most_processes
    → counters (row (with_row matrix j entries) j) p ≡ counters entries p

-- The rows of the other processes keep theirs.
abbrev pub OtherRows : Type 0
OtherRows =
    (matrix entries : List Count) (j i p : ℕ) → i < most_processes → p < most_processes → (i ≡ j → ⊥)
    → counters (row (with_row matrix j entries) i) p ≡ counters (row matrix i) p

-- In a column the entry of process j is the new one, and the others are the old ones.
abbrev pub ColumnWithRow : Type 0
ColumnWithRow =
    (matrix entries : List Count) (j i p : ℕ) → i < most_processes → p < most_processes
    → counters (column (with_row matrix j entries) p) i ≡ pick (eqb i j) (counters entries p) (counters (column matrix p) i)

-- The present entries are at most those held, as sent counters are after steps back; "not known" is above all counters.
abbrev pub Fallen : List Count → List Count → Type 0
Fallen now' held = (p : ℕ) → p < most_processes → (counters now' p ≤ counters held p) × (counters held p ≤ mark)

-- Who holds the old entries and gets the news of the differing ones has the present ones.
abbrev pub PatchDiff : Type 0
PatchDiff = (now' held : List Count) → Fallen now' held → patch held (diff now' held) ≡ as_row (counters now')

-- Every counter of such news is lower than the entry held.
abbrev pub DiffLower : Type 0
DiffLower = (now' held : List Count) → Fallen now' held → all_lower (diff now' held) held ≡ true

-- There is no such news exactly when the entries are the same.
abbrev pub DiffNone : Type 0
DiffNone =
    (now' held : List Count) → Fallen now' held
    → (same now' held ≡ true) ↔ ((p : ℕ) → p < most_processes → counters (diff now' held) p ≡ mark)

-- News of lower counters alone raises no entry.
abbrev pub PatchNotRaised : Type 0
PatchNotRaised =
    (held news : List Count) → all_lower news held ≡ true
    → (p : ℕ) → p < most_processes → counters (patch held news) p ≤ counters held p

-- The test for the same entries tells exactly that.
abbrev pub SameIsSame : Type 0
SameIsSame = (a b : List Count) → (same a b ≡ true) ↔ ((p : ℕ) → p < most_processes → counters a p ≡ counters b p)
