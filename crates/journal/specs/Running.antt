-- Document 02, E1: "One process's running counts are changed by each event that names it. The partner's counts stay."
use Rattle.std.specs.Prelude.{◌≡◌, List, [], ◌∷◌, ℕ, suc, ◌+◌, ◌-◌, ◌≤◌, ◌<◌, get_or, set, replicate, eqb}
use Rattle.lists.specs.Pick.{pick}
use Rattle.lists.specs.Over.{tab}
use Rattle.book.specs.Bounds.{most_processes, most_checkpoints, most_bytes}
use Rattle.journal.specs.declared.counts.Counts.{Counts}
use Rattle.journal.specs.declared.Event.{Event}
use Rattle.journal.specs.declared.Event.TheVariants.{Sent, Received, Checkpointed}
use Rattle.journal.specs.Counting.{sendings, receipts, checkpoint_count}

-- the process whose counts an event changes
abbrev pub process_of : Event → ℕ
process_of (Sent process partner) = process.0
process_of (Received process partner) = process.0
process_of (Checkpointed process) = process.0

-- one more at a partner's place; partners count from 1
abbrev pub one_more : ℕ → List ℕ → List ℕ
one_more p counts = set counts (p - 1) (get_or counts (p - 1) 0 + 1)

-- the counts of the process that an event names, after it
abbrev pub counts_after : Event → Counts → Counts
counts_after (Sent process partner) c =
    record { sent = one_more partner.0 c.sent; received = c.received; checkpoints = c.checkpoints }
counts_after (Received process partner) c =
    record { sent = c.sent; received = one_more partner.0 c.received; checkpoints = c.checkpoints }
counts_after (Checkpointed process) c = record { sent = c.sent; received = c.received; checkpoints = c.checkpoints + 1 }

-- where nothing is logged yet
abbrev pub no_counts : Counts
no_counts = record { sent = replicate most_processes 0; received = replicate most_processes 0; checkpoints = 1 }

-- "One process's running counts are changed by each event that names it. The partner's counts stay": the counts of process j after
-- an event
abbrev pub counts_next : ℕ → Event → Counts → Counts
counts_next j e c = pick (eqb (process_of e) j) (counts_after e c) c

-- and after all of a list, event by event
unfoldable pub running_counts : ℕ → List Event → Counts → Counts
running_counts j [] c = c
running_counts j (e ∷ es) c = running_counts j es (counts_next j e c)

-- the counts of process j after these events, each counted over them
abbrev pub counts_over : ℕ → List Event → Counts
counts_over j es =
    record {
      sent = tab most_processes (λ p. sendings j (suc p) es);
      received = tab most_processes (λ p. receipts j (suc p) es);
      checkpoints = checkpoint_count j es;
    }

-- ---- what is asked of the program's counts

-- a partner has a place in the counts, and one more does not overflow: no journal has as many events as bytes
pub record HasRoomAt (p : ℕ) (counts : List ℕ) : Type 0 where
  pub some : 1 ≤ p
  pub few : p ≤ most_processes
  pub room : get_or counts (p - 1) 0 + 1 < most_bytes

abbrev pub HasRoomFor : Event → Counts → Type 0
HasRoomFor (Sent process partner) c = HasRoomAt partner.0 c.sent
HasRoomFor (Received process partner) c = HasRoomAt partner.0 c.received
HasRoomFor (Checkpointed process) c = c.checkpoints < most_checkpoints

-- the same, of the counts of process j
abbrev pub HasRoomOf : ℕ → Event → Counts → Type 0
HasRoomOf j e c = process_of e ≡ j → HasRoomFor e c
