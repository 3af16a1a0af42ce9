-- `still_below` meets its contract.
use borrow.Author.Tests.{le-leb, lt-leb}
use Rattle.matrix.proofs.whole.still_below.Goals as goal

pub returns-then-y-x : goal.returns-then-y-x
returns-then-y-x c = let a = c.args in
    rw (lt-leb a.x.0 a.y.0 c.if-y-x.true)

pub returns : goal.returns
returns c = let a = c.args in
    rw (le-leb a.x.0 a.y.0 c.if-y-x.false)
