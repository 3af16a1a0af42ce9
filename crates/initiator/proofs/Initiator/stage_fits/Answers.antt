-- `stage_fits` meets its contract.
use mathlib.Core.Path.{◌≡◌, sym, ◌∙◌}
use mathlib.Core.Logic.{◌⊎◌, inl, inr}
use mathlib.Core.Bool.{false}
use Prim.Native.Nat.{◌-◌}
use lib.Dec.{eqb}
use borrow.Author.Tests.{eq-eqb, ne_eqb}
use Rattle.accepted.specs.Holding.{tables_in}
use Rattle.machine.specs.Own.{own_of}
use Rattle.initiator.proofs.Fitting.{stage_restarted, stage_searched}
use Rattle.initiator.proofs.Initiator.stage_fits.Goals as goal
use Rattle.initiator.proofs.Initiator.stage_fits.Goals.{else-self-via-then-self+else-self-eq2, else-self-via-else-self}

pub returns-then-self-eq2 : goal.returns-then-self-eq2
returns-then-self-eq2 c =
    let a = c.args in
    c.restart_fits.ensures
    ∙ sym (stage_restarted (own_of (tables_in a.tables.now) (a.self.me.0 - 1)) a.self c.if-self.true
    (eq-eqb a.self.purpose 2 c.if-self-eq2.true))

pub returns : goal.returns
returns c =
    let a = c.args in
    let other : (a.self.ended ≡ false) ⊎ (eqb a.self.purpose 2 ≡ false) =
    elim c.else-self.branch [
      | else-self-via-then-self+else-self-eq2 w ↦ inr (ne_eqb a.self.purpose 2 w.if-self-eq2.false)
      | else-self-via-else-self w ↦ inl w.if-self.false
    ] in
    c.search_fits.ensures ∙ sym (stage_searched (own_of (tables_in a.tables.now) (a.self.me.0 - 1)) a.self other)
