-- The statements of `session_theory`, "turns", for messages to participants.
-- Assumes nothing.
use Rattle.session.specs.Steps.{deliver_down}
use Rattle.session_theory.proofs.Moves.{DownGoes, EndGoes}
use Rattle.search_turns.proofs.Deliveries.{to_participants, waits_on, to_nobody, ends_on, finished_on, restarts_on}

pub down_goes : DownGoes
unfolding deliver_down
down_goes g s box phase ahead k is searches waits there now = (
  to_participants g is s waits.placed box k there phase ahead waits now,
  waits_on g is s waits.placed box k there phase ahead waits now,
)

pub end_goes : EndGoes
unfolding deliver_down
end_goes g s box open' k is ends there still = (
  to_nobody g is s ends.placed box k there open' ends still,
  ends_on g is s ends.placed box k there open' ends still,
  finished_on g is s ends.placed box k there open' ends still,
  restarts_on g is s ends.placed box k there open' ends still,
)
