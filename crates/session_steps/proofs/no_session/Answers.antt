-- `no_session` meets its contract.
use Rattle.session_steps.proofs.Steps.{none_is}
use Rattle.session_steps.proofs.no_session.Goals as goal

pub returns : goal.returns
returns c = let nobody = c.no_participant-nobody in
    none_is c.no_initiator.result nobody.result c.no_initiator.ensures nobody.ensures
