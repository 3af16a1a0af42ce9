-- `test_in_set` meets its contract.
use mathlib.Core.Path.{ap, ◌∙◌}
use Prim.Native.Nat.{◌-◌}
use native.Mathlib.Omega.{arith}
use Rattle.accepted.specs.Holding.{tables_in}
use Rattle.line_theory.proofs.Accepted.{rows_few}
use Rattle.line_theory.specs.OfTables.{view_of}
use Rattle.line_theory.specs.Search.{sent_to}
use Rattle.consistency.specs.Set.{chosen}
use Rattle.consistency.specs.Known.{counters, named_as}
use Rattle.consistency.proofs.Calls.{sent_whole, received_whole}
use Rattle.consistency.proofs.Permits.{offending_ext}
use Rattle.consistency.proofs.test_in_set.Goals as goal

pub sent_to-known-requires : goal.sent_to-known-requires
sent_to-known-requires c =
    record { whole = (sent_whole c.args.tables.now.passed, c.requires.is_process); all_named = c.requires.all_named }

pub offset_bounds-set-i : goal.offset_bounds-set-i
offset_bounds-set-i c = omega (arith, rows_few)

pub bounds-set-i : goal.bounds-set-i
bounds-set-i c = omega (arith, rows_few)

pub test_row-requires : goal.test_row-requires
test_row-requires c =
    record {
      whole = (received_whole c.args.tables.now.passed, c.requires.is_process);
      le_r = c.requires.all_named (c.args.j.0 - 1) (omega arith);
    }

pub returns : goal.returns
returns c = let a = c.args in
    let v = view_of (tables_in a.tables.now) in
    let j = a.j.0 - 1 in
    c.test_row.ensures
    ∙ ap named_as (offending_ext v.n (v.R j (chosen a.set j)) (counters c.sent_to-known.result) (sent_to v (chosen a.set) j)
    c.sent_to-known.ensures)
