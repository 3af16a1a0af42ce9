-- `silent` meets its contract.
use Rattle.initiator.proofs.Initiator.silent.Goals as goal

pub returns : goal.returns
returns c =
    let state = c.args.self in
    λ i. record { state = state; outgoing = c.nothing.ensures i }
