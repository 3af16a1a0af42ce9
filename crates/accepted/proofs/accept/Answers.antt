-- `accept` meets its contract.
use mathlib.Core.Path.{◌≡◌, refl, sym, ap, ◌∙◌}
use borrow.Author.Rules.{rules}
use Rattle.std.proofs.lemmas.Result.{err_from_is_err_and}
use Rattle.book.specs.Accepted.{AreAccepted}
use Rattle.book.specs.Lent.{Tables, lent}
use Rattle.book.proofs.Refusals.{refused_by, is_accepted, refuses, accepts}
use Rattle.book.proofs.Starts.{rows_accepted}
use Rattle.line_theory.proofs.Accepted.{accepted_few}
use Rattle.accepted.specs.Holding.{accepted_in}
use Rattle.accepted.proofs.accept.Goals as goal
use Rattle.accepted.proofs.accept.Goals.{In_ok-check}

pub returns-in_err-check : goal.returns-in_err-check
returns-in_err-check c =
    let p = err_from_is_err_and c.from_residual.result c.from_residual.ensures.1 in
    rw (p.1, p.2) (refuses c.in_err-check.field-0.0 _ (refused_by _ _ c.check.ensures c.in_err-check.was))

passed : (c : In_ok-check) → let a = c.args in AreAccepted (lent a.shape a.sent.now a.received.now)
passed c = record { sixteen = search rules; passed = is_accepted _ _ c.check.ensures c.in_ok-check.was }

pub rows_of-rows-requires : goal.rows_of-rows-requires
rows_of-rows-requires c = accepted_few (passed (goal.at.rows_of-rows-requires c).In_ok-check)

pub invariant_of-result : goal.invariant_of-result
invariant_of-result c = record { passed = rows_accepted (passed (goal.at.invariant_of-result c).In_ok-check) c.rows_of-rows.ensures }

pub returns : goal.returns
returns c = let a = c.args in
    accepts (is_accepted _ _ c.check.ensures c.in_ok-check.was) (ap (λ s. lent s a.sent.now a.received.now) c.rows_of-rows.ensures.0)
