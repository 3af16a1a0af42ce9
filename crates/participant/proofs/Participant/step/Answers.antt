-- `step` meets its contract.
use mathlib.Core.Path.{sym, ◌∙◌}
use Prim.Native.Nat.{◌-◌}
use Rattle.accepted.specs.Holding.{tables_in}
use Rattle.machine.specs.Own.{own_of}
use Rattle.participant.proofs.Steps.{on_oldest, on_end, on_news}
use Rattle.participant.proofs.Participant.step.Goals as goal

pub returns-then-head-eq2 : goal.returns-then-head-eq2
returns-then-head-eq2 c = let a = c.args in
    let own = own_of (tables_in a.tables.now) (a.self.me.0 - 1) in
    let ended = c.end_on_oldest in
    on_oldest own a.self a.message ended.result c.silent.result c.if-head-eq2.true ended.ensures c.silent.ensures

pub returns-then-is_termination : goal.returns-then-is_termination
returns-then-is_termination c = let a = c.args in
    let own = own_of (tables_in a.tables.now) (a.self.me.0 - 1) in
    let ended = c.end in
    let told = sym c.is_termination.ensures ∙ c.if-is_termination.true in
    on_end own a.self a.message ended.result c.silent-then-is_termination.result c.if-head-eq2.false told ended.ensures
    c.silent-then-is_termination.ensures

pub returns : goal.returns
returns c = let a = c.args in
    let own = own_of (tables_in a.tables.now) (a.self.me.0 - 1) in
    let back = c.step_back in
    let told = sym c.is_termination.ensures ∙ c.if-is_termination.false in
    on_news own a.self a.message back.result c.report_of.result c.if-head-eq2.false told back.ensures
    c.report_of.ensures
