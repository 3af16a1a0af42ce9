-- `read_any_event` meets its contract.
use mathlib.Core.Path.{sym, ◌∙◌}
use Rattle.journal.proofs.Events.{no_kind, no_process, is_checkpoint, no_partner, own_partner, is_sending, is_receipt, no_such_kind}
use Rattle.journal.proofs.read_any_event.Goals as goal

pub returns-in_err-kind : goal.returns-in_err-kind
returns-in_err-kind c = let a = c.args in
    rw c.from_residual.ensures (no_kind a.s.now a.at (sym c.read_number.ensures ∙ c.in_err-kind.was))

pub returns-in_err-process : goal.returns-in_err-process
returns-in_err-process c = let a = c.args in
    rw c.from_residual-in_err-process.ensures
    (no_process a.s.now a.at _ _ (sym c.read_number.ensures ∙ c.in_ok-kind.was)
    (sym c.read_number-2.ensures ∙ c.in_err-process.was))

pub returns-then-kind-eq3 : goal.returns-then-kind-eq3
returns-then-kind-eq3 c = let a = c.args in
    is_checkpoint a.s.now a.at _ _ (sym c.read_number.ensures ∙ c.in_ok-kind.was) _ _
    (sym c.read_number-2.ensures ∙ c.in_ok-process.was) c.if-kind-eq3.true

pub returns-in_err-partner : goal.returns-in_err-partner
returns-in_err-partner c = let a = c.args in
    rw c.from_residual-in_err-partner.ensures
    (no_partner a.s.now a.at _ _ (sym c.read_number.ensures ∙ c.in_ok-kind.was) _ _
    (sym c.read_number-2.ensures ∙ c.in_ok-process.was) c.if-kind-eq3.false
    (sym c.read_number-3.ensures ∙ c.in_err-partner.was))

pub returns-then-partner-process : goal.returns-then-partner-process
returns-then-partner-process c = let a = c.args in
    own_partner a.s.now a.at _ _ (sym c.read_number.ensures ∙ c.in_ok-kind.was) _ _
    (sym c.read_number-2.ensures ∙ c.in_ok-process.was) _ _
    (sym c.read_number-3.ensures ∙ c.in_ok-partner.was) c.if-kind-eq3.false
    c.if-partner-process.true

pub returns-then-kind-eq1 : goal.returns-then-kind-eq1
returns-then-kind-eq1 c = let a = c.args in
    is_sending a.s.now a.at _ _ (sym c.read_number.ensures ∙ c.in_ok-kind.was) _ _
    (sym c.read_number-2.ensures ∙ c.in_ok-process.was) _ _
    (sym c.read_number-3.ensures ∙ c.in_ok-partner.was) c.if-kind-eq1.true
    c.if-partner-process.false

pub returns-then-kind-eq2 : goal.returns-then-kind-eq2
returns-then-kind-eq2 c = let a = c.args in
    is_receipt a.s.now a.at _ _ (sym c.read_number.ensures ∙ c.in_ok-kind.was) _ _
    (sym c.read_number-2.ensures ∙ c.in_ok-process.was) _ _
    (sym c.read_number-3.ensures ∙ c.in_ok-partner.was) c.if-kind-eq2.true
    c.if-partner-process.false

pub returns : goal.returns
returns c = let a = c.args in
    no_such_kind a.s.now a.at _ _ (sym c.read_number.ensures ∙ c.in_ok-kind.was) _ _
    (sym c.read_number-2.ensures ∙ c.in_ok-process.was) c.if-kind-eq1.false
    c.if-kind-eq2.false c.if-kind-eq3.false
