-- Document 01, "Session": the workers of a session, each reached by its process number. Processes count from 0 here.
use Rattle.std.specs.Prelude.{Bool, true, false, not, ℕ, ◌-◌, get_or, eqb}
use Rattle.lists.specs.Pick.{pick}
use Rattle.participant.specs.declared.Participant.{Participant}
use Rattle.participant.specs.declared.Stage.{Stage}
use Rattle.participant.specs.declared.Stage.TheVariants.{Before, Searching, Ended}
use Rattle.participant.specs.Calls.{no_participant}
use Rattle.strands.specs.Strands.{length_on}
use Rattle.session.specs.declared.Session.{Session}

-- the initiator
abbrev pub initiator_of : Session → ℕ
initiator_of session = session.initiator.0 - 1

-- the machine of participant k
abbrev pub participant_at : Session → ℕ → Participant
participant_at session k = get_or session.participants k no_participant

abbrev pub is_ended : Stage → Bool
is_ended Before = false
is_ended Searching = false
is_ended Ended = true

-- "A worker stands on the candidate in its machine's state."
abbrev pub stands_on : Session → ℕ → ℕ
stands_on session j =
    pick (eqb j (initiator_of session)) session.machine.candidate.0 (participant_at session j).candidate.0

-- "A participant has ended once a termination was delivered to it, the initiator with the call that sends the terminations
-- (with n = 1, the start)." With purpose 2 "the invitation itself ends each participant .., and its sending the initiator".
abbrev pub has_ended : Session → ℕ → Bool
has_ended session j = pick (eqb j (initiator_of session)) session.machine.ended (is_ended (participant_at session j).stage)

-- "A message waits from the start or turn that writes it (`lengths_posted`) until the turn that delivers it (`delivered_on`)": its
-- length is not 0. Question 18: "Is a message waiting on that strand?"
abbrev pub waits_on : Session → ℕ → Bool
waits_on session k = not (eqb (length_on session.lengths k) 0)
