-- `first_step` meets its contract.
use borrow.Author.Tests.{eq-eqb, ne_eqb}
use Rattle.initiator.specs.Begin.{begin}
use Rattle.initiator.proofs.first_step.Goals as goal

pub returns-then-purpose-eq2 : goal.returns-then-purpose-eq2
unfolding begin
returns-then-purpose-eq2 c =
    let a = c.args in
    rw (eq-eqb a.purpose 2 c.if-purpose-eq2.true) c.begin_restart.ensures

pub returns : goal.returns
unfolding begin
returns c =
    let a = c.args in
    rw (ne_eqb a.purpose 2 c.if-purpose-eq2.false) c.begin_search.ensures
