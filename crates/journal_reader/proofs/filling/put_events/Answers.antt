use mathlib.Core.Path.{◌≡◌, sym, ◌∙◌}
use mathlib.Core.List.{List, []}
use Prim.Native.Nat.{ℕ, ◌<◌}
use native.Mathlib.Omega.{arith}
use lib.ListN.{length}
use Rattle.journal.specs.declared.counts.Counts.{Counts}
use Rattle.journal.specs.declared.Event.{Event}
use Rattle.journal.specs.Calls.{leading_n, events_logged}
use Rattle.journal.specs.Parts.{StandsAt}
use Rattle.journal.specs.Running.{process_of}
use Rattle.journal_reader.specs.Filling.{ToFill}
use Rattle.journal_reader.proofs.FillTurns.{Filling, Turn, named_there, process_some, process_few, counts_room, row_fits, filling_on, filling_more, sent_filled, received_filled}
use Rattle.journal_reader.proofs.FillKnown.{known_first, begun}
use Rattle.journal_reader.proofs.filling.put_events.Goals as goal
use Rattle.journal_reader.proofs.filling.put_events.Goals.{then-is_checkpoint, else-is_checkpoint}

-- what would stand past the end of the counts
abbrev past : Counts
past = record { sent = []; received = []; checkpoints = 0 }

-- what is known of the event, once its process is found
turn : {s first sent₀ received₀ sent received : List ℕ} {at next after process : ℕ} {all : List Counts} {e : Event}
    → ToFill s at first sent₀ received₀ → Filling (leading_n s) (events_logged s) s sent received all next → next < length s
    → StandsAt s next e after → process ≡ process_of e
    → Turn (leading_n s) (events_logged s) s first sent received all next e after process
turn ready inv left stands named =
    record { known = known_first ready; inv = inv; left = left; stands = stands; named = named }

pub loop-next-init : goal.loop-next-init
loop-next-init c = begun c.requires c.none-all.result c.none-all.ensures

pub accepted_event-found-requires : goal.accepted_event-found-requires
accepted_event-found-requires c = named_there (known_first c.requires).accepted c.loop-next.invariant c.loop-next-test.true

pub overflow_sub-j : goal.overflow_sub-j
overflow_sub-j c =
    let t = turn c.requires c.loop-next.invariant c.loop-next-test.true c.accepted_event-found.ensures c.process_of-process.ensures in
    process_some t

pub offset_bounds-all-j : goal.offset_bounds-all-j
offset_bounds-all-j c =
    let t = turn c.requires c.loop-next.invariant c.loop-next-test.true c.accepted_event-found.ensures c.process_of-process.ensures in
    omega (arith, process_few t)

pub bounds-all-j : goal.bounds-all-j
bounds-all-j c =
    let t = turn c.requires c.loop-next.invariant c.loop-next-test.true c.accepted_event-found.ensures c.process_of-process.ensures in
    process_few t

pub offset_bounds-first-j : goal.offset_bounds-first-j
offset_bounds-first-j c =
    let t = turn c.requires c.loop-next.invariant c.loop-next-test.true c.accepted_event-found.ensures c.process_of-process.ensures in
    omega (arith, process_few t)

pub bounds-first-j : goal.bounds-first-j
bounds-first-j c =
    let t = turn c.requires c.loop-next.invariant c.loop-next-test.true c.accepted_event-found.ensures c.process_of-process.ensures in
    process_few t

pub overflow_add-first : goal.overflow_add-first
overflow_add-first c =
    let t = turn c.requires c.loop-next.invariant c.loop-next-test.true c.accepted_event-found.ensures c.process_of-process.ensures in
    omega (arith, row_fits t past (sym c.is_checkpoint.ensures ∙ c.if-is_checkpoint.true))

pub put_rows-requires : goal.put_rows-requires
put_rows-requires c =
    let t = turn c.requires c.loop-next.invariant c.loop-next-test.true c.accepted_event-found.ensures c.process_of-process.ensures in
    let inside = row_fits t past (sym c.is_checkpoint.ensures ∙ c.if-is_checkpoint.true) in (
      record { within = inside; long = t.inv.sent_rows.long },
      record { within = inside; long = t.inv.received_rows.long },
    )

pub after_event-requires : goal.after_event-requires
after_event-requires c =
    let t = turn c.requires c.loop-next.invariant c.loop-next-test.true c.accepted_event-found.ensures c.process_of-process.ensures in
    λ own. counts_room t _

pub offset_bounds-all-j-in-loop-next : goal.offset_bounds-all-j-in-loop-next
offset_bounds-all-j-in-loop-next c =
    let t = turn c.requires c.loop-next.invariant c.loop-next-test.true c.accepted_event-found.ensures c.process_of-process.ensures in
    omega (arith, process_few t)

pub bounds-all-j-in-loop-next : goal.bounds-all-j-in-loop-next
bounds-all-j-in-loop-next c =
    let t = turn c.requires c.loop-next.invariant c.loop-next-test.true c.accepted_event-found.ensures c.process_of-process.ensures in
    process_few t

pub loop-next-smaller : goal.loop-next-smaller
loop-next-smaller c =
    let t = turn c.requires c.loop-next.invariant c.loop-next-test.true c.accepted_event-found.ensures c.process_of-process.ensures in
    omega (arith, t.stands)

pub loop-next-preserved : goal.loop-next-preserved
loop-next-preserved c =
    let t = turn c.requires c.loop-next.invariant c.loop-next-test.true c.accepted_event-found.ensures c.process_of-process.ensures in
    elim c.if-is_checkpoint.branch [
      | then-is_checkpoint w ↦
          filling_more t past (sym c.is_checkpoint.ensures ∙ w.if-is_checkpoint.true) _ c.after_event.ensures _ _
          (w.sent-is ∙ w.put_rows.ensures.sent) (w.received-is ∙ w.put_rows.ensures.received)
      | else-is_checkpoint w ↦
          filling_on t past _ c.after_event.ensures (sym c.is_checkpoint.ensures ∙ w.if-is_checkpoint.false) _ _ w.sent-is w.received-is
    ]

pub shape_of-sent : goal.shape_of-sent
shape_of-sent c = c.loop-next.invariant.sent_rows.long ∙ sym c.requires.sent_clear.long

pub shape_of-received : goal.shape_of-received
shape_of-received c = c.loop-next.invariant.received_rows.long ∙ sym c.requires.received_clear.long

pub returns : goal.returns
returns c =
    let known = known_first c.requires in
    record {
      sent = sent_filled known.accepted c.loop-next.invariant c.loop-next-test.false;
      received = received_filled known.accepted c.loop-next.invariant c.loop-next-test.false;
    }
