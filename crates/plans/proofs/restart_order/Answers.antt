-- `restart_order` meets its contract.
use mathlib.Core.Path.{sym, ap, ◌∙◌}
use Rattle.accepted.proofs.Accepting.{refused_with, passes_with, tables_are}
use Rattle.book.specs.Lent.{Tables, lent}
use Rattle.book.proofs.Refusals.{hands_on, accepts}
use Rattle.line_theory.specs.OfTables.{view_of}
use Rattle.restart.specs.declared.Plan.{Plan}
use Rattle.restart.specs.Plan.{planned}
use Rattle.restart.specs.Values.{order_of, plan_of}
use Rattle.restart.specs.Calls.{order_given}
use Rattle.restart.proofs.Orders.{order_given_lem}
use Rattle.plans.proofs.restart_order.Goals as goal

pub returns-in_err-tables : goal.returns-in_err-tables
returns-in_err-tables c = let a = c.args in
    let t = lent a.shape a.sent.now a.received.now in
    hands_on _ c.in_err-tables.field-0.0 (order_given t a.purpose) c.from_residual.ensures.1 (λ f same. same)
    (refused_with _ t c.accept.ensures c.in_err-tables.was)

pub returns : goal.returns
unfolding plan_of
returns c = let a = c.args in
    let t = lent a.shape a.sent.now a.received.now in
    let none = passes_with _ t c.accept.ensures c.in_ok-tables.was in
    accepts none
    (ap (λ (p : Plan). p.order) c.plan_move.ensures
    ∙ ap (λ (t : Tables). order_of t.shape.n (planned (view_of t) a.purpose)) (tables_are _ t c.accept.ensures c.in_ok-tables.was)
    ∙ sym (order_given_lem t a.purpose none))
