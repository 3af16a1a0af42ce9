-- `initiator_at` meets its contract.
use Rattle.words.specs.Initiator.{initiator_from}
use Rattle.state_words.proofs.initiator_at.Goals as goal

pub returns : goal.returns
unfolding initiator_from
returns c = rw (c.tally_in.ensures, c.counts_at-copy.ensures, c.counts_at-matrix.ensures, c.flags_at-awaited.ensures)
