-- `named` meets its contract.
use Rattle.session_check.proofs.Naming.{initiator_unnamed, machine_unnamed, named_rest}
use Rattle.std.proofs.Common.{sym, ◌∙◌}
use Rattle.session_check.proofs.named.Goals as goal

pub returns-then-not-is_named : goal.returns-then-not-is_named
returns-then-not-is_named c =
    let a = c.args in
    initiator_unnamed a.n a.session (sym c.is_named.ensures ∙ c.if-not-is_named.true)

pub returns-then-not-is_named-2 : goal.returns-then-not-is_named-2
returns-then-not-is_named-2 c =
    let a = c.args in
    machine_unnamed a.n a.session (sym c.is_named.ensures ∙ c.if-not-is_named.false) (sym c.is_named-2.ensures ∙ c.if-not-is_named-2.true)

pub returns : goal.returns
returns c =
    let a = c.args in
    named_rest a.n a.session (sym c.is_named.ensures ∙ c.if-not-is_named.false) (sym c.is_named-2.ensures ∙ c.if-not-is_named-2.false)
    c.all_named.ensures
