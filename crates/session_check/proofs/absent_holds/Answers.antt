-- `absent_holds` meets its contract.
use mathlib.Core.Path.{refl}
use Rattle.session_check.proofs.Absent.{something_waits, not_absent, nothing_there}
use Rattle.std.proofs.Common.{sym, ◌∙◌}
use Rattle.session_check.proofs.absent_holds.Goals as goal

pub returns-then-waits-ne0 : goal.returns-then-waits-ne0
returns-then-waits-ne0 c =
    let a = c.args in
    (something_waits a.p a.waits c.if-waits-ne0.true, refl)

pub returns-then-not-is_absent : goal.returns-then-not-is_absent
returns-then-not-is_absent c =
    let a = c.args in
    (not_absent a.p a.waits (sym c.is_absent.ensures ∙ c.if-not-is_absent.true), refl)

pub returns : goal.returns
returns c =
    let a = c.args in
    (nothing_there a.p a.waits (sym c.is_absent.ensures ∙ c.if-not-is_absent.false) c.if-waits-ne0.false, refl)
