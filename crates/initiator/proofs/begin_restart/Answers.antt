-- `begin_restart` meets its contract.
use Rattle.book.specs.Bounds.{mark}
use Rattle.matrix.proofs.Rows.{one_value}
use Rattle.initiator.specs.Begin.{begin_restart}
use Rattle.initiator.proofs.begin_restart.Goals as goal

pub returns : goal.returns
unfolding begin_restart
returns c = rw (c.without_wait-state.ensures, c.not_known_matrix-unknown.ensures, c.participants-to.ensures, one_value mark)
