-- What the functions that put questions 10, 11 and 13 to a session promise one another: the session's definitions over the parts
-- that each of them looks at.
use Rattle.std.specs.Prelude.{◌≡◌, Bool, not, ◌&&◌, ◌||◌, List, ℕ, suc, ◌+◌, ◌-◌, length, take, drop, get_or, leb, eqb}
use Rattle.book.specs.Lent.{Tables}
use Rattle.book.specs.Bounds.{most_processes}
use Rattle.lists.specs.Over.{all_to}
use Rattle.lists.specs.Pick.{pick}
use Rattle.book.specs.Names.{is_purpose}
use Rattle.machine.specs.Own.{own_of}
use Rattle.machine.specs.Named.{participant_named, is_participant}
use Rattle.participant.specs.declared.Participant.{Participant}
use Rattle.participant.specs.declared.Stage.{Stage}
use Rattle.participant.specs.Fits.{fits}
use Rattle.participant.specs.Calls.{no_participant}
use Rattle.initiator.specs.declared.Initiator.{Initiator}
use Rattle.initiator.specs.Fits as initiator
use Rattle.strands.specs.Strands.{slot_size, strand_start}
use Rattle.session.specs.declared.Waiting.{Waiting}
use Rattle.session.specs.declared.Waiting.TheVariants.{Nothing, Stray}
use Rattle.session.specs.Workers.{is_ended}
use Rattle.session.specs.Held.{sender_in, held_down, held_up, is_awaited, is_ending, is_report, is_stray}
use Rattle.session.specs.Fits.{is_absent}

-- the machine at a place
abbrev pub at : List Participant → ℕ → Participant
at participants k = get_or participants k no_participant

-- 10 and 11 of the places that are not empty
abbrev pub all_named : ℕ → List Participant → Bool
all_named n participants =
    all_to most_processes
    (λ k. is_absent (at participants k) || participant_named n (at participants k).me.0 (at participants k).initiator.0)

abbrev pub all_purposes : List Participant → Bool
all_purposes participants = all_to most_processes (λ k. is_absent (at participants k) || is_purpose (at participants k).purpose)

-- 13 of the initiator's machine
abbrev pub initiator_on : Tables → ℕ → ℕ → Initiator → Bool
initiator_on tables of purpose machine =
    eqb machine.me.0 of
    && (eqb machine.purpose purpose && initiator.fits (own_of tables (of - 1)) machine)

-- 13 of a participant's machine at place k
abbrev pub machine_fits : Tables → ℕ → ℕ → Participant → ℕ → Bool
machine_fits tables initiator purpose p k =
    eqb p.me.0 (suc k)
    && (eqb p.initiator.0 initiator && (eqb p.purpose purpose && fits (own_of tables k) p))

-- and of its strand: is it awaited, has the initiator ended, how far is the participant, and what does the strand hold
abbrev pub held_fits : Bool → Bool → Stage → Waiting → Bool
held_fits awaited ended stage w =
    not (is_stray w)
    && (pick (is_awaited w) awaited (not awaited) && (ended || (not (is_ended stage) && not (is_ending w))))

-- what waits lies within its slot and within a buffer of so many bytes
abbrev pub length_fits : ℕ → ℕ → ℕ → ℕ → ℕ → Bool
length_fits n initiator k waits room =
    eqb waits 0 || (leb waits (slot_size n) && leb (strand_start n initiator k + waits) room)

-- the bytes that wait, so many
abbrev pub bytes_on : ℕ → ℕ → ℕ → List ℕ → ℕ → List ℕ
bytes_on n initiator waits strands k = take waits (drop (strand_start n initiator k) strands)

-- what bytes on the strand between a participant and the initiator are
unfoldable pub held_of : ℕ → ℕ → Participant → Initiator → ℕ → List ℕ → Waiting
held_of n of p machine k s =
    pick (eqb (length s) 0) Nothing
    (pick (eqb (sender_in s) of) (held_down n p s) (pick (eqb (sender_in s) (suc k)) (held_up n machine s) Stray))

-- what is told of them without the initiator's machine: a report is what it is at the initiator
abbrev pub with_above : ℕ → Initiator → List ℕ → Waiting → Waiting
with_above n machine s w = pick (is_report w) (held_up n machine s) w

abbrev pub Told : ℕ → ℕ → Participant → ℕ → List ℕ → Waiting → Type 0
Told n of p k s w = (machine : Initiator) → with_above n machine s w ≡ held_of n of p machine k s

-- 13 of the place of process k
unfoldable pub place_on : Tables → ℕ → ℕ → Participant → Initiator → Bool → Bool → ℕ → List ℕ → ℕ → Bool
place_on tables of purpose p machine awaited ended waits strands k =
    pick (is_participant tables.shape.n (of - 1) k)
    (machine_fits tables of purpose p k
    && (length_fits tables.shape.n (of - 1) k waits (length strands)
    && held_fits awaited ended p.stage (held_of tables.shape.n of p machine k (bytes_on tables.shape.n (of - 1) waits strands k))))
    (is_absent p && eqb waits 0)

-- and what is told of it: stray if it does not fit
abbrev pub PlaceTold : Tables → ℕ → ℕ → Participant → Bool → Bool → ℕ → List ℕ → ℕ → Waiting → Type 0
PlaceTold tables of purpose p awaited ended waits strands k w =
    (machine : Initiator)
    → not (is_stray (with_above tables.shape.n machine (bytes_on tables.shape.n (of - 1) waits strands k) w))
    ≡ place_on tables of purpose p machine awaited ended waits strands k
