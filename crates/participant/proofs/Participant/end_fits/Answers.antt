-- `end_fits` meets its contract.
use mathlib.Core.Path.{sym, ◌∙◌}
use Prim.Native.Nat.{◌-◌}
use Rattle.accepted.specs.Holding.{tables_in}
use Rattle.machine.specs.Own.{own_of}
use Rattle.participant.proofs.Fitting.{ended_oldest, ended_searched}
use Rattle.participant.proofs.Participant.end_fits.Goals as goal

pub returns-then-self-eq2 : goal.returns-then-self-eq2
returns-then-self-eq2 c = let a = c.args in
    c.unknown_on.ensures
    ∙ sym (ended_oldest (own_of (tables_in a.tables.now) (a.self.me.0 - 1)) a.self c.if-self-eq2.true)

pub returns : goal.returns
returns c = let a = c.args in
    c.search_fits.ensures
    ∙ sym (ended_searched (own_of (tables_in a.tables.now) (a.self.me.0 - 1)) a.self c.if-self-eq2.false)
