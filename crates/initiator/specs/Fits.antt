-- Document 01, question 13 for an initiator: "Does the state fit the tables?"
use Rattle.std.specs.Prelude.{Bool, ◌&&◌, ◌||◌, List, ◌-◌, ltb, eqb}
use Rattle.book.specs.declared.Count.{Count}
use Rattle.lists.specs.Pick.{pick}
use Rattle.matrix.specs.Matrix.{row, column}
use Rattle.matrix.specs.Entries.{same}
use Rattle.matrix.specs.Whole.{all_rest_zero, all_not_known, all_none_above}
use Rattle.machine.specs.Own.{Own, has_checkpoint, sent_row, newest_permitted}
use Rattle.machine.specs.Named.{tally_limit}
use Rattle.machine.specs.Flags.{someone, only_participants}
use Rattle.initiator.specs.declared.Initiator.{Initiator}

-- the matrix whose column the candidate goes by: while it waits the copy, since reports have changed the matrix
abbrev pub kept_matrix : Initiator → List Count
kept_matrix state = pick state.ended state.matrix state.copy

-- the row and column conditions: "its own kept row is that candidate's sent counters; the candidate is the newest permitted
-- by the kept column, for a waiting initiator by the copy"
unfoldable pub search_fits : Own → Initiator → Bool
search_fits own state =
    same (row state.matrix (state.me.0 - 1)) (sent_row own state.candidate.0)
    && eqb state.candidate.0 (newest_permitted own (column (kept_matrix state) (state.me.0 - 1)))

-- in their place, "ended by purpose 2: checkpoint 1, all 'not known'"
unfoldable pub restart_fits : Initiator → Bool
restart_fits state =
    eqb state.candidate.0 1 && (all_not_known state.n state.matrix && all_not_known state.n state.copy)

abbrev pub stage_fits : Own → Initiator → Bool
stage_fits own state = pick (state.ended && eqb state.purpose 2) (restart_fits state) (search_fits own state)

-- the conditions of the entries and the flags alone
unfoldable pub entries_fit : Initiator → Bool
entries_fit state =
    -- "diagonal and absent entries are zero"
    all_rest_zero state.n state.matrix
    && (all_rest_zero state.n state.copy
    -- "only participants are awaited"
    && only_participants state.n (state.me.0 - 1) state.awaited)

unfoldable pub wait_fits : Initiator → Bool
wait_fits state =
    -- "No matrix entry is above the copy's; a waiting initiator awaits someone."
    all_none_above state.matrix state.copy
    && ((state.ended || someone state.awaited)
    -- "Counts of rounds .. are below 4,294,967,295."
    && ltb state.rounds tally_limit)

unfoldable pub fits : Own → Initiator → Bool
fits own state =
    -- the state is of as many processes as the tables: our reading of "fit", beside 01's list
    eqb state.n own.n
    -- "its candidate exists"
    && (has_checkpoint own state.candidate.0
    && (entries_fit state
    && (stage_fits own state
    && wait_fits state)))
