-- `before` meets its contract: its row is the one that `not_known_row` ensures.
use Rattle.participant.proofs.Calls.{before_is}
use Rattle.participant.proofs.Participant.before.Goals as goal

pub returns : goal.returns
returns c = let a = c.args in
    before_is a.n a.newest a.me a.initiator a.purpose c.not_known_row-row.result c.not_known_row-row.ensures
