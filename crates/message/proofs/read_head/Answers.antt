-- `read_head` meets its contract.
use mathlib.Core.Path.{sym, subst, ◌∙◌}
use Rattle.message.specs.Parts.{HeadFound}
use Rattle.message.proofs.Heads.{no_first, no_second, no_third, not_formed, head_found}
use Rattle.message.proofs.read_head.Goals as goal

pub returns-in_err-kind : goal.returns-in_err-kind
returns-in_err-kind c = let a = c.args in
    subst (HeadFound a.n a.s.now) (sym c.from_residual.ensures)
    (no_first a.n a.s.now (sym c.read_number.ensures ∙ c.in_err-kind.was))

pub returns-in_err-purpose : goal.returns-in_err-purpose
returns-in_err-purpose c = let a = c.args in
    subst (HeadFound a.n a.s.now) (sym c.from_residual-in_err-purpose.ensures)
    (no_second a.n a.s.now _ _ (sym c.read_number.ensures ∙ c.in_ok-kind.was) (sym c.read_number-2.ensures ∙ c.in_err-purpose.was))

pub returns-in_err-sender : goal.returns-in_err-sender
returns-in_err-sender c = let a = c.args in
    subst (HeadFound a.n a.s.now) (sym c.from_residual-in_err-sender.ensures)
    (no_third a.n a.s.now _ _ (sym c.read_number.ensures ∙ c.in_ok-kind.was) _ _ (sym c.read_number-2.ensures ∙ c.in_ok-purpose.was)
    (sym c.read_number-3.ensures ∙ c.in_err-sender.was))

pub returns-then-not-head_formed : goal.returns-then-not-head_formed
returns-then-not-head_formed c = let a = c.args in
    not_formed a.n a.s.now _ _ (sym c.read_number.ensures ∙ c.in_ok-kind.was) _ _ (sym c.read_number-2.ensures ∙ c.in_ok-purpose.was) _ _
    (sym c.read_number-3.ensures ∙ c.in_ok-sender.was)
    (sym c.head_formed.ensures ∙ c.if-not-head_formed.true)

pub returns : goal.returns
returns c = let a = c.args in
    head_found a.n a.s.now _ _ (sym c.read_number.ensures ∙ c.in_ok-kind.was) _ _ (sym c.read_number-2.ensures ∙ c.in_ok-purpose.was) _ _
    (sym c.read_number-3.ensures ∙ c.in_ok-sender.was)
    (sym c.head_formed.ensures ∙ c.if-not-head_formed.false)
