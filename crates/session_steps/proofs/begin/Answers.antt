-- `begin` meets its contract.
use Rattle.accepted.specs.Holding.{tables_in}
use Rattle.session_steps.proofs.Steps.{begun_is}
use Rattle.session_steps.proofs.begin.Goals as goal

pub returns : goal.returns
returns c = let a = c.args in
    let next = c.first_step-next in
    begun_is (tables_in a.tables.now) a.initiator a.purpose next.result c.first_places-participants.result next.ensures
    c.first_places-participants.ensures
