-- `machine_fits` meets its contract.
use native.Mathlib.Omega.{arith}
use Rattle.accepted.specs.Holding.{tables_in}
use Rattle.line_theory.proofs.Accepted.{rows_few}
use Rattle.session_check.proofs.Machines.{other_place, other_search, other_aim, machine_on_lem}
use Rattle.session_check.proofs.machine_fits.Goals as goal

pub overflow_add-k : goal.overflow_add-k
overflow_add-k c = omega (arith, rows_few c.args.tables.now.passed, c.requires)

pub returns-then-me-k : goal.returns-then-me-k
returns-then-me-k c =
    let a = c.args in
    other_place (tables_in a.tables.now) a.initiator.0 a.purpose a.p a.k c.if-me-k.true

pub returns-then-its-initiator : goal.returns-then-its-initiator
returns-then-its-initiator c =
    let a = c.args in
    other_search (tables_in a.tables.now) a.initiator.0 a.purpose a.p a.k c.if-me-k.false c.if-its-initiator.true

pub returns-then-p-purpose : goal.returns-then-p-purpose
returns-then-p-purpose c =
    let a = c.args in
    other_aim (tables_in a.tables.now) a.initiator.0 a.purpose a.p a.k c.if-me-k.false c.if-its-initiator.false
    c.if-p-purpose.true

pub fits-requires : goal.fits-requires
fits-requires c =
    let me = c.if-me-k.false in
    omega (arith, me, c.requires)

pub returns : goal.returns
returns c =
    let a = c.args in
    machine_on_lem (tables_in a.tables.now) a.initiator.0 a.purpose a.p a.k c.if-me-k.false c.if-its-initiator.false
    c.if-p-purpose.false
    c.fits.ensures
