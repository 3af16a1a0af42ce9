-- A journal as it is written: its leading n, then the numbers of each event, one after another.
use Rattle.std.specs.Prelude.{◌≡◌, List, [], ◌∷◌, ◌++◌, ℕ, ◌≤◌}
use Rattle.varint.specs.Sequence.{encode_all}
use Rattle.journal.specs.declared.Event.{Event}
use Rattle.journal.specs.declared.Event.TheVariants.{Sent, Received, Checkpointed}
use Rattle.journal.specs.Bounds.{journal_largest}
use Rattle.journal.specs.Events.{event_numbers}

unfoldable pub numbers_of_events : List Event → List ℕ
numbers_of_events [] = []
numbers_of_events (e ∷ es) = event_numbers e ++ numbers_of_events es

abbrev pub journal_numbers : ℕ → List Event → List ℕ
journal_numbers n es = n ∷ numbers_of_events es

abbrev pub journal_bytes : ℕ → List Event → List ℕ
journal_bytes n es = encode_all (journal_numbers n es)

-- its numbers can be written, and the partner is not the process
abbrev pub Writable : Event → Type 0
Writable (Sent process partner) =
    (process.0 ≤ journal_largest) × (partner.0 ≤ journal_largest) × (process.0 ≡ partner.0 → ⊥)
Writable (Received process partner) =
    (process.0 ≤ journal_largest) × (partner.0 ≤ journal_largest) × (process.0 ≡ partner.0 → ⊥)
Writable (Checkpointed process) = process.0 ≤ journal_largest

-- each event of a list can be written
unfoldable pub AllWritable : List Event → Type 0
AllWritable [] = Unit {0}
AllWritable (e ∷ es) = Writable e × AllWritable es
