-- `silent` meets its contract.
use Rattle.participant.proofs.Participant.silent.Goals as goal

pub returns : goal.returns
returns c = let state = c.args.self in
    λ i. record { state = state; outgoing = c.nothing.ensures i }
