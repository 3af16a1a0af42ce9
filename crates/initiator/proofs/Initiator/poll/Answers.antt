-- `poll` meets its contract.
use Rattle.initiator.specs.Step.{poll}
use Rattle.initiator.proofs.Initiator.poll.Goals as goal

pub returns : goal.returns
unfolding poll
returns c = rw (c.wait-state.ensures, c.polls-news.ensures, c.requires.to_value)
