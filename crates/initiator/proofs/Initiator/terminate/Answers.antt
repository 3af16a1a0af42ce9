-- `terminate` meets its contract.
use Rattle.book.specs.Bounds.{mark}
use Rattle.matrix.proofs.Rows.{one_value}
use Rattle.initiator.specs.Step.{terminate}
use Rattle.initiator.proofs.Initiator.terminate.Goals as goal

pub returns : goal.returns
unfolding terminate
returns c = rw (c.participants-to.ensures, one_value mark)
