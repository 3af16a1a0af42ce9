-- `search_fits` meets its contract.
use mathlib.Core.Path.{◌≡◌, ap, sym, ◌∙◌}
use Prim.Native.Nat.{◌-◌}
use native.Mathlib.Omega.{arith}
use mathlib.Core.Bool.{not}
use borrow.Author.Rules.{rules}
use Rattle.accepted.specs.Holding.{tables_in}
use Rattle.line_theory.proofs.Accepted.{rows_few}
use Rattle.consistency.proofs.Calls.{sent_whole, received_whole, received_rise}
use Rattle.matrix.specs.Matrix.{row}
use Rattle.matrix.specs.Entries.{same}
use Rattle.matrix.proofs.Equal.{rows_differ}
use Rattle.machine.specs.Own.{own_of, sent_row}
use Rattle.initiator.proofs.Fitting.{search_row, search_newest}
use Rattle.initiator.proofs.Initiator.search_fits.Goals as goal
use Rattle.initiator.proofs.Initiator.search_fits.Goals.{After-ne}

pub row-row-requires : goal.row-row-requires
row-row-requires c = omega (arith, rows_few)

pub sent_row-own-requires : goal.sent_row-own-requires
sent_row-own-requires c = record {
  whole = (sent_whole c.args.tables.now.passed, c.requires.is_process);
  le_r = c.requires.le_candidate;
}

-- the row that the state holds against the candidate's
row_told : (c : After-ne) → let a = c.args in
    same (row a.self.matrix (a.self.me.0 - 1)) (sent_row (own_of (tables_in a.tables.now) (a.self.me.0 - 1)) a.self.candidate.0)
    ≡ not c.ne.result
row_told c = sym (rows_differ c.row-row.result c.sent_row-own.result c.ne.result (search rules) (search rules) c.ne.ensures ∙ (λ i. same (c.row-row.ensures i) (c.sent_row-own.ensures i)))

pub returns-then-ne : goal.returns-then-ne
returns-then-ne c =
    let a = c.args in
    sym (search_row (own_of (tables_in a.tables.now) (a.self.me.0 - 1)) a.self
    (row_told (goal.at.returns-then-ne c).After-ne ∙ ap not c.if-ne.true))

pub column-column-requires : goal.column-column-requires
column-column-requires c = omega (arith, rows_few)

pub newest_near-newest-requires : goal.newest_near-newest-requires
newest_near-newest-requires c =
    let passed = c.args.tables.now.passed in
    record { whole = (received_whole passed, c.requires.is_process); rises = received_rise passed c.requires.is_process }

pub returns : goal.returns
returns c =
    let a = c.args in
    let kept = c.kept_matrix-kept in
    let known = c.column-column in
    let newest = c.newest_near-newest in
    c.eq.ensures ∙ sym (search_newest (own_of (tables_in a.tables.now) (a.self.me.0 - 1)) a.self kept.result known.result newest.result.0
    kept.ensures
    known.ensures
    newest.ensures
    (row_told (goal.at.returns c).After-ne ∙ ap not c.if-ne.false))
