-- Document 01, question 13 for a participant: "Does the state fit the tables?"
use Rattle.std.specs.Prelude.{Bool, ◌&&◌, ℕ, ◌-◌, eqb}
use Rattle.lists.specs.Pick.{pick}
use Rattle.matrix.specs.Matrix.{not_known_row}
use Rattle.matrix.specs.Entries.{same, rest_zero}
use Rattle.machine.specs.Own.{Own, has_checkpoint, sent_row, newest_permitted}
use Rattle.participant.specs.declared.Participant.{Participant}
use Rattle.participant.specs.declared.Stage.{Stage}
use Rattle.participant.specs.declared.Stage.TheVariants.{Before, Searching, Ended}

-- the row and column conditions: "its own kept row is that candidate's sent counters; the candidate is the newest permitted
-- by the kept column"
unfoldable pub search_fits : Own → Participant → Bool
search_fits own state =
    same state.row (sent_row own state.candidate.0)
    && eqb state.candidate.0 (newest_permitted own state.column)

-- in their place: this checkpoint, "all 'not known'"
unfoldable pub unknown_on : ℕ → Participant → Bool
unknown_on r state =
    eqb state.candidate.0 r
    && (same state.row (not_known_row state.n (state.me.0 - 1))
    && same state.column (not_known_row state.n (state.me.0 - 1)))

-- "before the invitation: newest checkpoint, all 'not known'. Likewise, ended by purpose 2: checkpoint 1, all 'not known'."
abbrev pub stage_fits : Own → Participant → Stage → Bool
stage_fits own state Before = unknown_on own.count state
stage_fits own state Searching = search_fits own state
stage_fits own state Ended = pick (eqb state.purpose 2) (unknown_on 1 state) (search_fits own state)

unfoldable pub fits : Own → Participant → Bool
fits own state =
    -- the state is of as many processes as the tables: our reading of "fit", beside 01's list
    eqb state.n own.n
    -- "its candidate exists"
    && (has_checkpoint own state.candidate.0
    -- "diagonal and absent entries are zero"
    && (rest_zero state.n (state.me.0 - 1) state.row
    && (rest_zero state.n (state.me.0 - 1) state.column
    && stage_fits own state state.stage)))
