-- Flags for processes, which count from 0.
use Rattle.std.specs.Prelude.{Bool, false, ◌||◌, not, List, ℕ, get_or}
use Rattle.book.specs.Bounds.{most_processes}
use Rattle.lists.specs.Over.{all_to, tab}
use Rattle.machine.specs.Named.{is_participant}

abbrev pub flag : List Bool → ℕ → Bool
flag flags p = get_or flags p false

-- is some process flagged? (does the initiator still wait?)
unfoldable pub someone : List Bool → Bool
someone flags = not (all_to most_processes (λ p. not (flag flags p)))

-- "only participants are awaited"
unfoldable pub only_participants : ℕ → ℕ → List Bool → Bool
only_participants n me flags = all_to most_processes (λ p. not (flag flags p) || is_participant n me p)

-- every participant
unfoldable pub participants : ℕ → ℕ → List Bool
participants n me = tab most_processes (λ p. is_participant n me p)

-- nobody
abbrev pub nobody : List Bool
nobody = tab most_processes (λ p. false)
