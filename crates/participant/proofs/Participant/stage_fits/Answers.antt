-- `stage_fits` meets its contract.
use mathlib.Core.Path.{◌≡◌, sym, ap, ◌∙◌}
use Prim.Native.Nat.{◌-◌}
use native.Mathlib.Omega.{arith}
use Rattle.accepted.specs.Holding.{tables_in}
use Rattle.line_theory.proofs.Accepted.{rows_few}
use Rattle.machine.specs.Own.{own_of}
use Rattle.participant.specs.declared.Stage.{Stage}
use Rattle.participant.specs.Fits.{stage_fits}
use Rattle.participant.proofs.Participant.stage_fits.Goals as goal
use Rattle.participant.proofs.Participant.stage_fits.Goals.{Start}

pub offset_bounds-counts-place : goal.offset_bounds-counts-place
offset_bounds-counts-place c = omega (arith, rows_few)

pub bounds-counts-place : goal.bounds-counts-place
bounds-counts-place c = omega (arith, rows_few)

at_stage : (c : Start) (s : Stage) → c.args.self.stage ≡ s → let a = c.args in
    let own = own_of (tables_in a.tables.now) (a.self.me.0 - 1) in
    stage_fits own a.self s ≡ stage_fits own a.self a.self.stage
at_stage c s h =
    let a = c.args in
    ap (λ (t : Stage). stage_fits (own_of (tables_in a.tables.now) (a.self.me.0 - 1)) a.self t) (sym h)

pub returns-in-Before : goal.returns-in-Before
returns-in-Before c = c.unknown_on.ensures ∙ at_stage (goal.at.returns-in-Before c).Start _ c.in-Before.is

pub returns-in-Searching : goal.returns-in-Searching
returns-in-Searching c = c.search_fits.ensures ∙ at_stage (goal.at.returns-in-Searching c).Start _ c.in-Searching.is

pub returns-in-Ended : goal.returns-in-Ended
returns-in-Ended c = c.end_fits.ensures ∙ at_stage (goal.at.returns-in-Ended c).Start _ c.in-Ended.is
