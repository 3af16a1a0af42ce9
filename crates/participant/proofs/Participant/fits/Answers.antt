-- `fits` meets its contract.
use mathlib.Core.Path.{sym, ◌∙◌}
use Prim.Native.Nat.{◌-◌, ◌≤◌}
use native.Mathlib.Omega.{arith}
use Rattle.accepted.specs.Holding.{tables_in}
use Rattle.line_theory.proofs.Accepted.{rows_few}
use Rattle.machine.specs.Own.{Own, own_of}
use Rattle.participant.proofs.Fitting.{fits_size, fits_none_below, fits_none_above, fits_row, fits_column, fits_stage}
use Rattle.participant.proofs.Participant.fits.Goals as goal
use Rattle.participant.proofs.Participant.fits.Goals.{then-candidate-lt1-via-then-candidate-lt1, then-candidate-lt1-via-else-candidate-lt1+then-counts-place}

pub returns-then-self-shape : goal.returns-then-self-shape
returns-then-self-shape c = let own : Own = let a = c.args in own_of (tables_in a.tables.now) (a.self.me.0 - 1) in
    sym (fits_size (own) c.args.self c.if-self-shape.true)

pub offset_bounds-counts-place : goal.offset_bounds-counts-place
offset_bounds-counts-place c = omega (arith, rows_few)

pub bounds-counts-place : goal.bounds-counts-place
bounds-counts-place c = omega (arith, rows_few)

pub returns-then-candidate-lt1 : goal.returns-then-candidate-lt1
returns-then-candidate-lt1 c =
    let a = c.args in
    let own : Own = own_of (tables_in a.tables.now) (a.self.me.0 - 1) in
    let sized = c.if-self-shape.false in
    elim c.then-candidate-lt1.branch [
      | then-candidate-lt1-via-then-candidate-lt1 w ↦ sym (fits_none_below own a.self sized w.if-candidate-lt1.true)
      | then-candidate-lt1-via-else-candidate-lt1+then-counts-place w ↦ sym (fits_none_above own a.self sized w.if-counts-place.true)
    ]

pub returns-then-not-rest_zero : goal.returns-then-not-rest_zero
returns-then-not-rest_zero c = let own : Own = let a = c.args in own_of (tables_in a.tables.now) (a.self.me.0 - 1) in
    let there : (1 ≤ c.args.self.candidate.0) × (c.args.self.candidate.0 ≤ (own).count) = (c.if-candidate-lt1.false, c.if-counts-place.false) in
    let row = c.rest_zero in
    sym (fits_row (own) c.args.self c.if-self-shape.false (there)
    (sym row.ensures ∙ c.if-not-rest_zero.true))

pub returns-then-not-rest_zero-2 : goal.returns-then-not-rest_zero-2
returns-then-not-rest_zero-2 c = let own : Own = let a = c.args in own_of (tables_in a.tables.now) (a.self.me.0 - 1) in
    let there : (1 ≤ c.args.self.candidate.0) × (c.args.self.candidate.0 ≤ (own).count) = (c.if-candidate-lt1.false, c.if-counts-place.false) in
    let row = c.rest_zero in
    let column = c.rest_zero-2 in
    sym (fits_column (own) c.args.self c.if-self-shape.false (there)
    (sym row.ensures ∙ c.if-not-rest_zero.false)
    (sym column.ensures ∙ c.if-not-rest_zero-2.true))

pub returns : goal.returns
returns c = let own : Own = let a = c.args in own_of (tables_in a.tables.now) (a.self.me.0 - 1) in
    let there : (1 ≤ c.args.self.candidate.0) × (c.args.self.candidate.0 ≤ (own).count) = (c.if-candidate-lt1.false, c.if-counts-place.false) in
    let row = c.rest_zero in
    let column = c.rest_zero-2 in
    c.stage_fits.ensures
    ∙ sym (fits_stage (own) c.args.self c.if-self-shape.false (there)
    (sym row.ensures ∙ c.if-not-rest_zero.false)
    (sym column.ensures ∙ c.if-not-rest_zero-2.false))
