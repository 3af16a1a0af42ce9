-- `purposes` meets its contract.
use Rattle.session_check.proofs.Naming.{session_no_purpose, machine_no_purpose, purposes_rest}
use Rattle.std.proofs.Common.{sym, ◌∙◌}
use Rattle.session_check.proofs.purposes.Goals as goal

pub returns-then-not-is_purpose : goal.returns-then-not-is_purpose
returns-then-not-is_purpose c =
    let a = c.args in
    session_no_purpose a.session (sym c.is_purpose.ensures ∙ c.if-not-is_purpose.true)

pub returns-then-not-is_purpose-2 : goal.returns-then-not-is_purpose-2
returns-then-not-is_purpose-2 c =
    let a = c.args in
    machine_no_purpose a.session (sym c.is_purpose.ensures ∙ c.if-not-is_purpose.false) (sym c.is_purpose-2.ensures ∙ c.if-not-is_purpose-2.true)

pub returns : goal.returns
returns c =
    let a = c.args in
    purposes_rest a.session (sym c.is_purpose.ensures ∙ c.if-not-is_purpose.false) (sym c.is_purpose-2.ensures ∙ c.if-not-is_purpose-2.false)
    c.all_purposes.ensures
