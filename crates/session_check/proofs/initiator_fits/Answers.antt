-- `initiator_fits` meets its contract.
use native.Mathlib.Omega.{arith}
use Rattle.accepted.specs.Holding.{tables_in}
use Rattle.session_check.proofs.Machines.{other_initiator, other_purpose, initiator_on_lem}
use Rattle.session_check.proofs.initiator_fits.Goals as goal

pub returns-then-me-initiator : goal.returns-then-me-initiator
returns-then-me-initiator c =
    let a = c.args in
    other_initiator (tables_in a.tables.now) a.initiator.0 a.purpose a.machine c.if-me-initiator.true

pub returns-then-machine-purpose : goal.returns-then-machine-purpose
returns-then-machine-purpose c =
    let a = c.args in
    other_purpose (tables_in a.tables.now) a.initiator.0 a.purpose a.machine c.if-me-initiator.false c.if-machine-purpose.true

pub fits-requires : goal.fits-requires
fits-requires c = omega (arith, c.if-me-initiator.false, c.requires)

pub returns : goal.returns
returns c =
    let a = c.args in
    initiator_on_lem (tables_in a.tables.now) a.initiator.0 a.purpose a.machine c.if-me-initiator.false c.if-machine-purpose.false c.fits.ensures
