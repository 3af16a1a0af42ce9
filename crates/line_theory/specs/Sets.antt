-- Document 01, "The line", for a book of any number of processes: consistent sets, the first pair at fault, the line, and
-- T. Processes count from 0, below n; checkpoints from 1, the oldest.
use Rattle.std.specs.Prelude.{◌≡◌, Bool, ◌&&◌, not, ℕ, suc, ◌-◌, ◌≤◌, ◌<◌, ltb, eqb}
use Rattle.std.proofs.Math.Option.{Option}
use Rattle.lists.specs.Over.{sum_to, lowest_pair}

-- A book as K 2.2 sees it: process j has `count j` checkpoints, and its checkpoint r had sent partner p so many messages
-- (S) and received so many from it (R).
pub record View : Type 0 where
  pub n : ℕ
  pub count : ℕ → ℕ
  pub S : ℕ → ℕ → ℕ → ℕ
  pub R : ℕ → ℕ → ℕ → ℕ

-- All that the theory of the line asks of a book. It does not ask that received counters rise.
pub record IsBook (mark : ℕ) (v : View) : Type 0 where
  pub some : (j : ℕ) → j < v.n → 1 ≤ v.count j
  pub rising : (j r p : ℕ) → j < v.n → p < v.n → 1 ≤ r → r < v.count j → v.S j r p ≤ v.S j (suc r) p
  pub below : (j r p : ℕ) → j < v.n → p < v.n → 1 ≤ r → r ≤ v.count j → v.S j r p < mark
  pub received : (j r p : ℕ) → j < v.n → p < v.n → 1 ≤ r → r ≤ v.count j → v.R j r p ≤ mark
  pub oldest : (j p : ℕ) → j < v.n → p < v.n → v.R j 1 p ≡ 0
  pub own : (j r : ℕ) → j < v.n → 1 ≤ r → r ≤ v.count j → (v.S j r j ≡ 0) × (v.R j r j ≡ 0)

-- "A set has one checkpoint per process." A set is a function; what it holds from n on does not count.
pub record IsSet (v : View) (c : ℕ → ℕ) : Type 0 where
  pub some : (j : ℕ) → j < v.n → 1 ≤ c j
  pub among : (j : ℕ) → j < v.n → c j ≤ v.count j

-- "It is consistent if for every two different processes j and p, what j's checkpoint received from p is at most what
-- p's sent to j." (K 2.2)
abbrev pub Consistent : View → (ℕ → ℕ) → Type 0
Consistent v c = (j p : ℕ) → j < v.n → p < v.n → (j ≡ p → ⊥) → v.R j (c j) p ≤ v.S p (c p) j

-- process j's checkpoint received more from process p than p's has sent to j
abbrev pub received_more : View → (ℕ → ℕ) → ℕ → ℕ → Bool
received_more v c j p = ltb (v.S p (c p) j) (v.R j (c j) p)

-- The pair (j, p) is at fault: they differ, and j's checkpoint received more from p than p's sent to j.
abbrev pub at_fault : View → (ℕ → ℕ) → ℕ → ℕ → Bool
at_fault v c j p = not (eqb j p) && received_more v c j p

-- Document 02, E3: "The pair shown is now the lowest j, and for it the lowest p." None where no pair is at fault.
abbrev pub first_fault : View → (ℕ → ℕ) → Option (ℕ × ℕ)
first_fault v c = lowest_pair v.n (at_fault v c)

-- "The line is the consistent set that is nowhere earlier than any other consistent set."
pub record IsLine (v : View) (c : ℕ → ℕ) : Type 0 where
  pub is_set : IsSet v c
  pub pairwise : Consistent v c
  pub latest : (d : ℕ → ℕ) → IsSet v d → Consistent v d → (j : ℕ) → j < v.n → d j ≤ c j

-- how many checkpoints are newer than a set's, summed
unfoldable pub newer_than : View → (ℕ → ℕ) → ℕ
newer_than v c = sum_to v.n (λ j. v.count j - c j)

-- the book without the checkpoints that are newer than a set's
abbrev pub cut : View → (ℕ → ℕ) → View
cut v c = record { n = v.n; count = c; S = v.S; R = v.R }
