-- `accept` meets its contract.
use mathlib.Core.Path.{sym, ◌∙◌}
use Rattle.std.proofs.lemmas.Result.{err_from_is_err_and}
use Rattle.accepted.proofs.Accepting.{refused_with, not_with, passes_with, tables_are}
use Rattle.book.specs.Lent.{lent}
use Rattle.book.specs.declared.Question.TheVariants.{Purpose}
use Rattle.book.proofs.Refusals.{refuses, accepts}
use Rattle.restart.proofs.Orders.{move_passes}
use Rattle.plans.proofs.Asked.{tables_refused, purpose_refused}
use Rattle.plans.proofs.accept.Goals as goal

pub returns-in_err-tables : goal.returns-in_err-tables
returns-in_err-tables c = let a = c.args in
    let t = lent a.shape a.sent.now a.received.now in
    let h = c.accept.ensures in
    let was = c.in_err-tables.was in
    let p = err_from_is_err_and c.from_residual.result c.from_residual.ensures.1 in
    rw (p.1, p.2)
    (refuses c.in_err-tables.field-0.0 t (tables_refused t a.purpose (not_with _ t h was) ∙ refused_with _ t h was))

pub returns-then-not-is_purpose : goal.returns-then-not-is_purpose
returns-then-not-is_purpose c = let a = c.args in
    let t = lent a.shape a.sent.now a.received.now in
    refuses Purpose t
    (purpose_refused t a.purpose
    (passes_with _ t c.accept.ensures c.in_ok-tables.was)
    (sym c.is_purpose.ensures ∙ c.if-not-is_purpose.true))

pub returns : goal.returns
returns c = let a = c.args in
    let t = lent a.shape a.sent.now a.received.now in
    accepts
    (move_passes t a.purpose
    (passes_with _ t c.accept.ensures c.in_ok-tables.was)
    (sym c.is_purpose.ensures ∙ c.if-not-is_purpose.false))
    (tables_are _ t c.accept.ensures c.in_ok-tables.was)
