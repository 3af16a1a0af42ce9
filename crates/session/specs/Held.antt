-- Document 01, question 13 of a session: what a strand holds. "Each waiting message passes 14 to 16 where it is going": from
-- the initiator to the participant, from the strand's own participant to the initiator, as its sender says.
use Rattle.std.specs.Prelude.{Bool, true, false, ◌||◌, List, ℕ, suc, length, get_or, eqb}
use Rattle.lists.specs.Pick.{pick}
use Rattle.message.specs.declared.Message.{Message}
use Rattle.message.specs.Formed.{numbers_in}
use Rattle.machine.specs.Sends.{is_termination}
use Rattle.participant.specs.declared.Participant.{Participant}
use Rattle.participant.specs.Calls as participant
use Rattle.initiator.specs.declared.Initiator.{Initiator}
use Rattle.initiator.specs.Calls as initiator
use Rattle.strands.specs.Strands.{strand_bytes}
use Rattle.session.specs.declared.Session.{Session}
use Rattle.session.specs.declared.Waiting.{Waiting}
use Rattle.session.specs.declared.Waiting.TheVariants.{Nothing, Asking, Ending, Report, Stray}
use Rattle.session.specs.Workers.{initiator_of, participant_at}

-- the sender that a message names: its third number
abbrev pub sender_in : List ℕ → ℕ
sender_in s = get_or (numbers_in s).found 2 0

-- to a participant: a termination or the invitation of purpose 2 ends it, any other message asks for a report
abbrev pub ends_search : Message → Bool
ends_search m = eqb m.head.purpose 2 || is_termination m

unfoldable pub held_down : ℕ → Participant → List ℕ → Waiting
held_down n p s =
    pick (eqb (participant.message_question n p s) 0) (pick (ends_search (participant.read_by n p s)) Ending Asking) Stray

-- to the initiator
unfoldable pub held_up : ℕ → Initiator → List ℕ → Waiting
held_up n machine s = pick (eqb (initiator.message_question n machine s) 0) Report Stray

-- what waits on participant k's strand, as bytes, and what it is
abbrev pub waiting_bytes : ℕ → Session → List ℕ → ℕ → List ℕ
waiting_bytes n session strands k = strand_bytes n (initiator_of session) session.lengths strands k

unfoldable pub held : ℕ → Session → ℕ → List ℕ → Waiting
held n session k s =
    pick (eqb (length s) 0) Nothing
    (pick (eqb (sender_in s) session.initiator.0) (held_down n (participant_at session k) s)
    (pick (eqb (sender_in s) (suc k)) (held_up n session.machine s) Stray))

-- a value for each thing that a strand can hold
abbrev pub by_waiting : {A : Type 0} → (nothing asking ending report stray : A) → Waiting → A
by_waiting nothing asking ending report stray Nothing = nothing
by_waiting nothing asking ending report stray Asking = asking
by_waiting nothing asking ending report stray Ending = ending
by_waiting nothing asking ending report stray Report = report
by_waiting nothing asking ending report stray Stray = stray

-- "a searching invitation, a poll or a report"
abbrev pub is_awaited : Waiting → Bool
is_awaited w = by_waiting false true false true false w

-- "no termination waits". A restart's invitation counts here too: with purpose 2 nothing can be awaited, so a waiting initiator
-- fails 13 in any case.
abbrev pub is_ending : Waiting → Bool
is_ending w = by_waiting false false true false false w

abbrev pub is_report : Waiting → Bool
is_report w = by_waiting false false false true false w

abbrev pub is_stray : Waiting → Bool
is_stray w = by_waiting false false false false true w
