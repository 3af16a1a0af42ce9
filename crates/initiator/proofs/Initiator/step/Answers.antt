-- `step` meets its contract.
use mathlib.Core.Path.{sym, ◌∙◌}
use Prim.Native.Nat.{ℕ, ◌-◌}
use Rattle.accepted.specs.Holding.{tables_in}
use Rattle.machine.specs.Own.{Own, own_of}
use Rattle.initiator.proofs.Steps.{taken_me, back_keeps, step_silent, step_compared}
use Rattle.initiator.proofs.Initiator.step.Goals as goal
use Rattle.initiator.proofs.Initiator.step.Goals.{Start}

-- what a process sees
abbrev own : Start → ℕ → Own
own c j = let a = c.args in own_of (tables_in a.tables.now) j

-- reports are still out:
-- it goes on waiting
pub returns-then-someone : goal.returns-then-someone
returns-then-someone c =
    let a = c.args in
    let taken = c.take_report-taken in
    step_silent (own (goal.at.returns-then-someone c).Start) a.self a.message taken.result taken.ensures c.silent.result
    (sym c.someone.ensures ∙ c.if-someone.true)
    c.silent.ensures

pub step_back-stepped-requires : goal.step_back-stepped-requires
step_back-stepped-requires c =
    let a = c.args in
    let taken = c.take_report-taken in
    rw (taken_me a.self a.message taken.result taken.ensures) c.requires.is_process

pub compare-requires : goal.compare-requires
compare-requires c =
    let a = c.args in
    let taken = c.take_report-taken in
    back_keeps (own (goal.at.compare-requires c).Start (taken.result.me.0 - 1)) a.self a.message taken.result c.step_back-stepped.result taken.ensures
    c.step_back-stepped.ensures
    c.requires.is_process.0
    c.requires.rounds_lt_tally_limit

pub returns : goal.returns
returns c =
    let a = c.args in
    let taken = c.take_report-taken in
    step_compared (own (goal.at.returns c).Start) a.self a.message taken.result taken.ensures c.compare.result c.step_back-stepped.result
    (sym c.someone.ensures ∙ c.if-someone.false)
    c.step_back-stepped.ensures
    c.compare.ensures
