-- What is proved of consistent sets, of the line, and of every search that steps back: the finder's and the machines'.
-- m is the mark.
use Rattle.std.specs.Prelude.{◌≡◌, true, false, ◌↔◌, ℕ, ◌+◌, ◌≤◌, ◌<◌}
use Rattle.std.proofs.Math.Option.{none, some}
use Rattle.book.specs.Bounds.{mark}
use Rattle.book.specs.Lent.{Tables}
use Rattle.book.specs.Accepted.{AreAccepted}
use Rattle.lists.specs.Over.{sum_to}
use Rattle.line_theory.specs.Sets.{View, IsBook, IsSet, Consistent, at_fault, first_fault, IsLine, newer_than, cut}
use Rattle.line_theory.specs.Search.{permitted, lowest_offending, newest, sent_to, line}
use Rattle.line_theory.specs.OfTables.{view_of}

-- ---- the first pair at fault (document 02, E3)

-- a pair that is at fault, while no pair before it is: none of a lower j, and of its own j none of a lower p
pub record IsFirstFault (v : View) (c : ℕ → ℕ) (j p : ℕ) : Type 0 where
  pub first : j < v.n
  pub second : p < v.n
  pub fault : at_fault v c j p ≡ true
  pub lower_j : (i q : ℕ) → i < j → q < v.n → at_fault v c i q ≡ false
  pub lower_p : (q : ℕ) → q < p → at_fault v c j q ≡ false

-- The pair shown is the first at fault, and the first at fault is shown.
abbrev pub PairIsFirst : Type 0
PairIsFirst = (v : View) (c : ℕ → ℕ) (j p : ℕ) → first_fault v c ≡ some (j, p) ↔ IsFirstFault v c j p

-- None is shown exactly when the set is consistent.
abbrev pub NoPairIsConsistent : Type 0
NoPairIsConsistent = (v : View) (c : ℕ → ℕ) → first_fault v c ≡ none ↔ Consistent v c

-- a partner from which more was received than is known to be sent; of no lower one is that so
pub record IsLowestOffending (n : ℕ) (row known : ℕ → ℕ) (p : ℕ) : Type 0 where
  pub partner : p < n
  pub more : known p < row p
  pub lower : (q : ℕ) → q < p → row q ≤ known q

-- The partner named is the lowest that offends, and the lowest that offends is named.
abbrev pub PartnerIsLowest : Type 0
PartnerIsLowest =
    (n : ℕ) (row known : ℕ → ℕ) (p : ℕ) → lowest_offending n row known ≡ some p ↔ IsLowestOffending n row known p

-- None is named exactly when there is none: when the checkpoint is permitted.
abbrev pub NoneOffendsIsPermitted : Type 0
NoneOffendsIsPermitted = (n : ℕ) (row known : ℕ → ℕ) → lowest_offending n row known ≡ none ↔ permitted n row known ≡ true

-- In a book it is another process: a checkpoint has received nothing from its own.
abbrev pub PartnerIsOther : Type 0
PartnerIsOther =
    (m : ℕ) (v : View) (j r p : ℕ) (known : ℕ → ℕ) → IsBook m v → j < v.n → 1 ≤ r → r ≤ v.count j
    → lowest_offending v.n (v.R j r) known ≡ some p → p ≡ j → ⊥

-- "Not known" permits everything: what the partner named has sent is known.
abbrev pub PartnerIsKnown : Type 0
PartnerIsKnown =
    (m : ℕ) (v : View) (j r p : ℕ) (known : ℕ → ℕ) → IsBook m v → j < v.n → 1 ≤ r → r ≤ v.count j
    → lowest_offending v.n (v.R j r) known ≡ some p → known p < m

-- A set is tested checkpoint by checkpoint, each against what the others' have sent to it: the first pair at fault is the
-- first process for which a partner is named, and that partner.
abbrev pub PairNamesPartner : Type 0
PairNamesPartner =
    (m : ℕ) (v : View) (c : ℕ → ℕ) (j p : ℕ) → IsBook m v → IsSet v c
    → first_fault v c ≡ some (j, p)
    ↔ (
    (j < v.n)
    × (lowest_offending v.n (v.R j (c j)) (sent_to v c j) ≡ some p)
    × ((i : ℕ) → i < j → lowest_offending v.n (v.R i (c i)) (sent_to v c i) ≡ none)
    )

-- ---- the line

-- The line that is computed is a consistent set of the book, and nowhere earlier than any other.
abbrev pub LineIsLine : Type 0
LineIsLine = (m : ℕ) (v : View) → IsBook m v → IsLine v (line v)

-- It is the only such set.
abbrev pub OnlyLine : Type 0
OnlyLine = (m : ℕ) (v : View) (c : ℕ → ℕ) → IsBook m v → IsLine v c → (j : ℕ) → j < v.n → c j ≡ line v j

-- A book cut to any of its sets is a book: so the line of what is left is a line too, and is no later than the whole
-- book's.
abbrev pub CutIsBook : Type 0
CutIsBook = (m : ℕ) (v : View) (c : ℕ → ℕ) → IsBook m v → IsSet v c → IsBook m (cut v c)

abbrev pub CutLineEarlier : Type 0
CutLineEarlier = (m : ℕ) (v : View) (c : ℕ → ℕ) → IsBook m v → IsSet v c → (j : ℕ) → j < v.n → line (cut v c) j ≤ line v j

-- a set at or above the line, of checkpoints that there are
pub record AboveLine (v : View) (c : ℕ → ℕ) : Type 0 where
  pub above : (j : ℕ) → j < v.n → line v j ≤ c j
  pub among : (j : ℕ) → j < v.n → c j ≤ v.count j

-- A book cut to a set at or above its line keeps its line: so a search may start from any such set.
abbrev pub CutAboveKeepsLine : Type 0
CutAboveKeepsLine =
    (m : ℕ) (v : View) (c : ℕ → ℕ) → IsBook m v → AboveLine v c → (j : ℕ) → j < v.n → line (cut v c) j ≡ line v j

-- T is how far a set's checkpoints, added up, are from the newest: of every set, and so of the line.
abbrev pub NewerIsDistance : Type 0
NewerIsDistance = (v : View) (c : ℕ → ℕ) → IsSet v c → newer_than v c + sum_to v.n c ≡ sum_to v.n v.count

-- Accepted tables are a book, as the theory of the line wants it.
abbrev pub AcceptedIsBook : Type 0
AcceptedIsBook = (tables : Tables) → AreAccepted tables → IsBook mark (view_of tables)

-- ---- a search that steps back

-- the newest permitted checkpoint from r back: there is one, it is permitted, and no later one is
pub record IsNewest (n : ℕ) (rows : ℕ → ℕ → ℕ) (known : ℕ → ℕ) (r found : ℕ) : Type 0 where
  pub some : 1 ≤ found
  pub back : found ≤ r
  pub permits : permitted n (rows found) known ≡ true
  pub later : (s : ℕ) → found < s → s ≤ r → permitted n (rows s) known ≡ false

abbrev pub NewestIsNewest : Type 0
NewestIsNewest =
    (m : ℕ) (v : View) (j r : ℕ) (known : ℕ → ℕ) → IsBook m v → j < v.n → 1 ≤ r → r ≤ v.count j
    → IsNewest v.n (v.R j) known r (newest v.n (v.R j) known r)

-- Who has stepped back once need not look at later checkpoints again: what is known of the others only falls.
abbrev pub NewestFromCandidate : Type 0
NewestFromCandidate =
    (n : ℕ) (rows : ℕ → ℕ → ℕ) (known known' : ℕ → ℕ) (r : ℕ) → ((p : ℕ) → p < n → known' p ≤ known p)
    → newest n rows known' (newest n rows known r) ≡ newest n rows known' r

-- "Not known" permits everything: only counters that are known can refuse a checkpoint.
abbrev pub NotKnownPermits : Type 0
NotKnownPermits =
    (m : ℕ) (v : View) (j r : ℕ) (known : ℕ → ℕ) → IsBook m v → j < v.n → 1 ≤ r → r ≤ v.count j
    → ((p : ℕ) → p < v.n → (known p ≡ m → ⊥) → v.R j r p ≤ known p) → permitted v.n (v.R j r) known ≡ true

-- From a set at or above the line, a step back of process j stays at or above it, provided that what is known of each
-- partner is at least what its checkpoint in the set has sent.
abbrev pub StepStaysAbove : Type 0
StepStaysAbove =
    (m : ℕ) (v : View) (c known : ℕ → ℕ) (j r : ℕ) → IsBook m v → AboveLine v c → j < v.n
    → ((p : ℕ) → p < v.n → sent_to v c j p ≤ known p) → line v j ≤ r → r ≤ v.count j
    → line v j ≤ newest v.n (v.R j) known r

-- A checkpoint at or above the line that is not permitted is above it.
abbrev pub RefusedIsAbove : Type 0
RefusedIsAbove =
    (m : ℕ) (v : View) (c known : ℕ → ℕ) (j r : ℕ) → IsBook m v → AboveLine v c → j < v.n
    → ((p : ℕ) → p < v.n → sent_to v c j p ≤ known p) → line v j ≤ r → permitted v.n (v.R j r) known ≡ false
    → line v j < r

-- A set of a book is consistent exactly when the others' sent counters permit each of its checkpoints.
abbrev pub PermittedIsConsistent : Type 0
PermittedIsConsistent =
    (m : ℕ) (v : View) (c : ℕ → ℕ) → IsBook m v → IsSet v c
    → ((j : ℕ) → j < v.n → permitted v.n (v.R j (c j)) (sent_to v c j) ≡ true) ↔ Consistent v c

-- A consistent set at or above the line is the line.
abbrev pub ConsistentAboveIsLine : Type 0
ConsistentAboveIsLine =
    (m : ℕ) (v : View) (c : ℕ → ℕ) → IsBook m v → AboveLine v c → Consistent v c → (j : ℕ) → j < v.n → c j ≡ line v j
