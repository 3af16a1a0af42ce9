-- The line as it is found: every process steps back from its newest checkpoint for as long as one of them must. K 2.2
-- moves one process at a time; that all step together is our way of writing it down, and ends on the same set
-- (`LineIsLine`).
use Rattle.std.specs.Prelude.{Bool, List, ℕ, zero, suc, get_or, ltb, leb}
use Rattle.std.proofs.Math.Option.{Option}
use Rattle.lists.specs.Over.{all_to, sum_to, tab, last_to, lowest}
use Rattle.line_theory.specs.Sets.{View, newer_than}

-- Document 01, "A search": a checkpoint "whose received counters are at most the known sent counters". `row p` is what
-- the checkpoint received from partner p, `known p` what p's candidate sent to it, or the mark for "not known", which is
-- above every counter and so permits everything. The own column is asked too: in a book it is zero, which everything
-- permits.
unfoldable pub permitted : ℕ → (ℕ → ℕ) → (ℕ → ℕ) → Bool
permitted n row known = all_to n (λ p. leb (row p) (known p))

-- Document 02, E3: the test "names its lowest offending partner", from which the checkpoint received more than is known to be
-- sent; none where there is none, which is where it is permitted (`NoneOffendsIsPermitted`). The own column is asked too, as
-- above.
abbrev pub lowest_offending : ℕ → (ℕ → ℕ) → (ℕ → ℕ) → Option ℕ
lowest_offending n row known = lowest n (λ p. ltb (known p) (row p))

-- "its newest checkpoint" of these, from checkpoint r back; `rows` are the received counters of its checkpoints. 0 for
-- none; in a book there is one (`NewestIsNewest`).
unfoldable pub newest : ℕ → (ℕ → ℕ → ℕ) → (ℕ → ℕ) → ℕ → ℕ
newest n rows known r = last_to (λ s. permitted n (rows s) known) r

-- what p's checkpoint in a set has sent to process j
abbrev pub sent_to : View → (ℕ → ℕ) → ℕ → ℕ → ℕ
sent_to v c j p = v.S p (c p) j

-- all processes step back together, each to its newest checkpoint that the set's sent counters permit
unfoldable pub stepped : View → List ℕ → List ℕ
stepped v set =
    let c : ℕ → ℕ = λ j. get_or set j 0 in
    tab v.n (λ j. newest v.n (v.R j) (sent_to v c j) (c j))

-- a set stepped back so many times
unfoldable pub settled : ℕ → View → List ℕ → List ℕ
settled zero v set = set
settled (suc k) v set = settled k v (stepped v set)

-- from the newest set: each step but the last takes a checkpoint back, so as many steps as there are checkpoints suffice
unfoldable pub line_set : View → List ℕ
line_set v = settled (sum_to v.n v.count) v (tab v.n v.count)

-- the line's checkpoint of process j; 0 for absent processes
abbrev pub line : View → ℕ → ℕ
line v j = get_or (line_set v) j 0

-- T: "T, 'passed', is the number of checkpoints newer than the line's, summed."
abbrev pub passed : View → ℕ
passed v = newer_than v (line v)
