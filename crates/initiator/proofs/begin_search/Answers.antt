-- `begin_search` meets its contract.
use mathlib.Core.Path.{sym, subst}
use Prim.Native.Nat.{◌-◌, ◌<◌}
use native.Mathlib.Omega.{arith}
use Rattle.accepted.specs.Holding.{tables_in}
use Rattle.line_theory.proofs.Accepted.{accepted_book, rows_few}
use Rattle.consistency.proofs.Calls.{sent_whole}
use Rattle.machine.specs.Own.{own_of}
use Rattle.machine.specs.Named.{tally_limit}
use Rattle.initiator.specs.declared.Initiator.{Initiator}
use Rattle.initiator.specs.Begin.{without_wait}
use Rattle.initiator.proofs.Steps.{search_is}
use Rattle.initiator.proofs.begin_search.Goals as goal

pub offset_bounds-counts-place : goal.offset_bounds-counts-place
offset_bounds-counts-place c = omega (arith, rows_few)

pub bounds-counts-place : goal.bounds-counts-place
bounds-counts-place c = omega (arith, rows_few)

pub sent_row-row-requires : goal.sent_row-row-requires
sent_row-row-requires c =
    let passed = c.args.tables.now.passed in
    record {
      whole = (sent_whole passed, c.requires);
      le_r = ((accepted_book passed.accepted).some (c.args.me.0 - 1) (omega (arith, c.requires)), omega arith);
    }

pub with_row-first-requires : goal.with_row-first-requires
with_row-first-requires c = omega (arith, rows_few)

pub wait_if-state-requires : goal.wait_if-state-requires
unfolding without_wait
wait_if-state-requires c = subst (λ (t : Initiator). t.rounds < tally_limit) (sym c.without_wait-start.ensures) (omega arith)

pub returns : goal.returns
returns c =
    let a = c.args in
    let row = c.sent_row-row in
    let unknown = c.not_known_matrix-unknown in
    let first = c.with_row-first in
    let to = c.participants-to in
    let news = c.invitations-news in
    let start = c.without_wait-start in
    search_is (own_of (tables_in a.tables.now) (a.me.0 - 1)) a.me a.purpose row.result unknown.result
    first.result
    to.result
    news.result
    start.result
    c.wait_if-state.result
    row.ensures
    unknown.ensures
    first.ensures
    to.ensures
    news.ensures
    start.ensures
    c.wait_if-state.ensures
