-- Document 01, "Program `line`": turns taken "lowest waiting strand first", until nothing waits.
use Rattle.std.specs.Prelude.{true, false, List, ℕ, zero, suc, replicate}
use Rattle.book.specs.Lent.{Tables}
use Rattle.book.specs.declared.Process.{Process}
use Rattle.book.specs.Bounds.{most_processes}
use Rattle.lists.specs.Over.{lowest, numbered}
use Rattle.line_theory.specs.OfTables.{view_of}
use Rattle.strands.specs.Strands.{room_for_all}
use Rattle.session.specs.declared.Session.{Session}
use Rattle.session.specs.Workers.{waits_on}
use Rattle.session.specs.Turns.{Ongoing, started, after_turn}
use Rattle.demand3.specs.Statement.{message_waits, most_delivered}

-- strands with room for sixteen processes, all zero
abbrev pub strands_inside : List ℕ
strands_inside = replicate (room_for_all most_processes) 0

-- the lowest process on whose strand a message waits, numbered from 1; 0 for none
abbrev pub lowest_waiting : Session → Process
lowest_waiting session = record { 0 = numbered (lowest most_processes (waits_on session)) }

module _ (tables : Tables) where
  -- turns until nothing waits, so many at most
  unfoldable pub to_end : ℕ → Ongoing → Ongoing
  to_end zero o = o
  to_end (suc left) o =
      elim (message_waits o.session) [
        | true ↦ to_end left (after_turn tables o (lowest_waiting o.session))
        | false ↦ o
      ]

  -- a session from its start to its end, which demand 3's bound suffices for (purpose 2 needs only n − 1 turns)
  unfoldable pub searched : Process → ℕ → Ongoing
  searched initiator purpose = to_end (most_delivered (view_of tables)) (started tables initiator purpose strands_inside)
