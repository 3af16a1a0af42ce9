-- `fits` meets its contract.
use mathlib.Core.Path.{sym, ◌∙◌}
use Prim.Native.Nat.{◌-◌}
use native.Mathlib.Omega.{arith}
use Rattle.accepted.specs.Holding.{tables_in}
use Rattle.line_theory.proofs.Accepted.{rows_few}
use Rattle.machine.specs.Own.{own_of}
use Rattle.initiator.proofs.Fitting.{fits_size, fits_none_below, fits_none_above, fits_no_entries, fits_no_stage, fits_wait}
use Rattle.initiator.proofs.Initiator.fits.Goals as goal
use Rattle.initiator.proofs.Initiator.fits.Goals.{then-candidate-lt1-via-then-candidate-lt1, then-candidate-lt1-via-else-candidate-lt1+then-counts-place}

pub returns-then-self-shape : goal.returns-then-self-shape
returns-then-self-shape c =
    let a = c.args in
    let own = own_of (tables_in a.tables.now) (a.self.me.0 - 1) in
    sym (fits_size own a.self c.if-self-shape.true)

pub offset_bounds-counts-place : goal.offset_bounds-counts-place
offset_bounds-counts-place c = omega (arith, rows_few)

pub bounds-counts-place : goal.bounds-counts-place
bounds-counts-place c = omega (arith, rows_few)

pub returns-then-candidate-lt1 : goal.returns-then-candidate-lt1
returns-then-candidate-lt1 c =
    let a = c.args in
    let own = own_of (tables_in a.tables.now) (a.self.me.0 - 1) in
    let sized = c.if-self-shape.false in
    elim c.then-candidate-lt1.branch [
      | then-candidate-lt1-via-then-candidate-lt1 w ↦ sym (fits_none_below own a.self sized w.if-candidate-lt1.true)
      | then-candidate-lt1-via-else-candidate-lt1+then-counts-place w ↦ sym (fits_none_above own a.self sized w.if-counts-place.true)
    ]

pub returns-then-not-entries_fit : goal.returns-then-not-entries_fit
returns-then-not-entries_fit c =
    let a = c.args in
    let own = own_of (tables_in a.tables.now) (a.self.me.0 - 1) in
    let entries = c.entries_fit in
    sym (fits_no_entries own a.self c.if-self-shape.false (c.if-candidate-lt1.false, c.if-counts-place.false)
    (sym entries.ensures ∙ c.if-not-entries_fit.true))

pub returns-then-not-stage_fits : goal.returns-then-not-stage_fits
returns-then-not-stage_fits c =
    let a = c.args in
    let own = own_of (tables_in a.tables.now) (a.self.me.0 - 1) in
    let entries = c.entries_fit in
    let stage = c.stage_fits in
    sym (fits_no_stage own a.self c.if-self-shape.false (c.if-candidate-lt1.false, c.if-counts-place.false)
    (sym entries.ensures ∙ c.if-not-entries_fit.false)
    (sym stage.ensures ∙ c.if-not-stage_fits.true))

pub returns : goal.returns
returns c =
    let a = c.args in
    let own = own_of (tables_in a.tables.now) (a.self.me.0 - 1) in
    let entries = c.entries_fit in
    let stage = c.stage_fits in
    c.wait_fits.ensures
    ∙ sym (fits_wait own a.self c.if-self-shape.false (c.if-candidate-lt1.false, c.if-counts-place.false)
    (sym entries.ensures ∙ c.if-not-entries_fit.false)
    (sym stage.ensures ∙ c.if-not-stage_fits.false))
