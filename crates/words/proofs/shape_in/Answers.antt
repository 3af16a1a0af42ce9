-- `shape_in` meets its contract.
use Rattle.words.specs.Plain.{shape_in}
use Rattle.words.proofs.shape_in.Goals as goal

pub returns : goal.returns
unfolding shape_in
returns c = rw c.numbers_at-counts.ensures
