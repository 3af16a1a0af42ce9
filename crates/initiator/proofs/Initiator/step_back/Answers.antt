-- `step_back` meets its contract.
use Prim.Native.Nat.{◌-◌}
use native.Mathlib.Omega.{arith}
use Rattle.accepted.specs.Holding.{tables_in}
use Rattle.line_theory.proofs.Accepted.{rows_few}
use Rattle.consistency.proofs.Calls.{sent_whole, received_whole, received_rise}
use Rattle.machine.specs.Own.{own_of}
use Rattle.machine.proofs.Calls.{newest_there}
use Rattle.initiator.proofs.Steps.{back_is}
use Rattle.initiator.proofs.Initiator.step_back.Goals as goal

pub column-known-requires : goal.column-known-requires
column-known-requires c = omega (arith, rows_few)

pub newest_near-candidate-requires : goal.newest_near-candidate-requires
newest_near-candidate-requires c =
    let passed = c.args.tables.now.passed in
    record { whole = (received_whole passed, c.requires); rises = received_rise passed c.requires }

pub sent_row-row-requires : goal.sent_row-row-requires
sent_row-row-requires c =
    let passed = c.args.tables.now.passed in
    record {
      whole = (sent_whole passed, c.requires);
      le_r = newest_there c.args.self.me.0 c.column-known.result passed c.requires c.newest_near-candidate.ensures;
    }

pub with_row-matrix-requires : goal.with_row-matrix-requires
with_row-matrix-requires c = omega (arith, rows_few)

pub returns : goal.returns
returns c =
    let a = c.args in
    let known = c.column-known in
    let newest = c.newest_near-candidate in
    let row = c.sent_row-row in
    back_is (own_of (tables_in a.tables.now) (a.self.me.0 - 1)) a.self known.result newest.result row.result
    c.with_row-matrix.result
    known.ensures
    newest.ensures
    row.ensures
    c.with_row-matrix.ensures
