-- Document 01: the names that question 10 asks of a participant, who is one, and the counts that question 13 bounds.
use Rattle.std.specs.Prelude.{Bool, ◌&&◌, not, ℕ, ◌+◌, ltb, eqb}
use Rattle.book.specs.Names.{is_named}

-- 10: "Is each process named from 1 to n (a participant: other than the initiator)?"
abbrev pub participant_named : ℕ → ℕ → ℕ → Bool
participant_named n me initiator = is_named n me && (is_named n initiator && not (eqb me initiator))

-- a participant: a process that there is, other than the initiator; both count from 0
abbrev pub is_participant : ℕ → ℕ → ℕ → Bool
is_participant n initiator p = ltb p n && not (eqb p initiator)

-- a tally: a count of rounds or of deliveries. 13: "Counts of rounds and deliveries are below 4,294,967,295."
abbrev pub tally_limit : ℕ
tally_limit = 4294967295

-- one that is below the limit may be raised once more: every tally is below this
abbrev pub tally_bound : ℕ
tally_bound = tally_limit + 1
