-- Document 01, questions 10, 11 and 13 of a session.
use Rattle.std.specs.Prelude.{Bool, true, false, not, ◌&&◌, ◌||◌, List, ℕ, suc, ◌+◌, length, ltb, leb, eqb}
use Rattle.book.specs.Lent.{Tables}
use Rattle.book.specs.Bounds.{most_processes}
use Rattle.lists.specs.Over.{all_to}
use Rattle.lists.specs.Pick.{pick}
use Rattle.matrix.specs.Matrix.{as_row}
use Rattle.matrix.specs.Entries.{same}
use Rattle.book.specs.Names.{is_named, is_purpose}
use Rattle.machine.specs.Own.{own_of}
use Rattle.machine.specs.Named.{participant_named, is_participant, tally_limit}
use Rattle.machine.specs.Flags.{flag}
use Rattle.participant.specs.declared.Participant.{Participant}
use Rattle.participant.specs.declared.Stage.{Stage}
use Rattle.participant.specs.declared.Stage.TheVariants.{Before, Searching, Ended}
use Rattle.participant.specs.Fits as participant
use Rattle.initiator.specs.Fits as initiator
use Rattle.strands.specs.Strands.{slot_size, strand_start, length_on}
use Rattle.session.specs.declared.Session.{Session}
use Rattle.session.specs.declared.Waiting.{Waiting}
use Rattle.session.specs.Workers.{initiator_of, participant_at, is_ended}
use Rattle.session.specs.Held.{waiting_bytes, held, is_awaited, is_ending, is_stray}

-- ---- empty places

-- One fixed value, all zero, at the places of absent processes and at the initiator's own among the participants: a place that is
-- empty names nobody.
abbrev pub is_before : Stage → Bool
is_before Before = true
is_before Searching = false
is_before Ended = false

unfoldable pub is_absent : Participant → Bool
is_absent p =
    eqb p.n 0
    && (eqb p.me.0 0
    && (eqb p.initiator.0 0
    && (eqb p.purpose 0
    && (is_before p.stage
    && (eqb p.candidate.0 0
    && (same p.row (as_row (λ q. 0))
    && same p.column (as_row (λ q. 0))))))))

-- of each of sixteen places that is not empty something holds
abbrev pub at_places : Session → (Participant → Bool) → Bool
at_places session f = all_to most_processes (λ k. is_absent (participant_at session k) || f (participant_at session k))

-- ---- 10 and 11

-- 10: "Is each process named from 1 to n (a participant: other than the initiator)?"
unfoldable pub session_named : ℕ → Session → Bool
session_named n session =
    is_named n session.initiator.0
    && (is_named n session.machine.me.0
    && at_places session (λ p. participant_named n p.me.0 p.initiator.0))

-- 11: "Is the purpose 1, 2 or 3?"
unfoldable pub session_purposes : Session → Bool
session_purposes session =
    is_purpose session.purpose
    && (is_purpose session.machine.purpose && at_places session (λ p. is_purpose p.purpose))

-- ---- 13

-- "every machine fits; n, purpose and initiator agree"
unfoldable pub initiator_fits : Tables → Session → Bool
initiator_fits tables session =
    eqb session.machine.me.0 session.initiator.0
    && (eqb session.machine.purpose session.purpose
    && initiator.fits (own_of tables (initiator_of session)) session.machine)

-- (the machine at place k is that of process k + 1: our reading of "fit", beside 01's list)
unfoldable pub participant_fits : Tables → Session → ℕ → Bool
participant_fits tables session k =
    let p : Participant = participant_at session k in
    eqb p.me.0 (suc k)
    && (eqb p.initiator.0 session.initiator.0
    && (eqb p.purpose session.purpose
    && participant.fits (own_of tables k) p))

-- what waits lies within the strand's slot and within the buffer: our reading of "fit", beside 01's list
unfoldable pub strand_within : ℕ → Session → List ℕ → ℕ → Bool
strand_within n session strands k =
    eqb (length_on session.lengths k) 0
    || (leb (length_on session.lengths k) (slot_size n)
    && leb (strand_start n (initiator_of session) k + length_on session.lengths k) (length strands))

-- participant k's strand, by what it holds
unfoldable pub strand_fits : Session → ℕ → Waiting → Bool
strand_fits session k w =
    -- "each waiting message passes 14 to 16 where it is going"
    not (is_stray w)
    -- "the initiator awaits just those whose strand holds a searching invitation, a poll or a report"
    && (pick (is_awaited w) (flag session.machine.awaited k) (not (flag session.machine.awaited k))
    -- "while it waits, no participant has ended and no termination waits"
    && (session.machine.ended || (not (is_ended (participant_at session k).stage) && not (is_ending w))))

-- Each place, with its strand. (That the places of absent processes and the initiator's own are empty is our reading of "fit",
-- beside 01's list.)
unfoldable pub place_fits : Tables → Session → List ℕ → ℕ → Bool
place_fits tables session strands k =
    pick (is_participant tables.shape.n (initiator_of session) k)
    (participant_fits tables session k
    && (strand_within tables.shape.n session strands k
    && strand_fits session k (held tables.shape.n session k (waiting_bytes tables.shape.n session strands k))))
    (is_absent (participant_at session k) && eqb (length_on session.lengths k) 0)

-- 13: "Does the state fit the tables?"
unfoldable pub session_fits : Tables → Session → List ℕ → Bool
session_fits tables session strands =
    eqb session.n tables.shape.n
    && (initiator_fits tables session
    && (all_to most_processes (place_fits tables session strands)
    -- "Counts of rounds and deliveries are below 4,294,967,295."
    && ltb session.delivered tally_limit))
