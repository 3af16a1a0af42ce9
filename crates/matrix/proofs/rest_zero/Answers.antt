-- `rest_zero` meets its contract: by where process j stands, and whether its own entry is zero.
use mathlib.Core.Path.{sym, ◌∙◌}
use native.Mathlib.Omega.{arith}
use Rattle.matrix.proofs.Zeros.{rest_absent, rest_from, rest_fails}
use Rattle.matrix.proofs.rest_zero.Goals as goal

pub returns-then-n-down : goal.returns-then-n-down
returns-then-n-down c = c.zero_from.ensures ∙ sym (rest_absent _ _ _ c.if-n-down.true)

pub returns-then-down-ge-MOST_PROCESSES : goal.returns-then-down-ge-MOST_PROCESSES
returns-then-down-ge-MOST_PROCESSES c = c.zero_from-then-down-ge-MOST_PROCESSES.ensures ∙ sym (rest_from _ _ _ c.if-n-down.false (λ h. absurd (omega (arith, c.if-down-ge-MOST_PROCESSES.true))))

pub returns-then-own-ne0 : goal.returns-then-own-ne0
returns-then-own-ne0 c = sym (rest_fails _ _ _ c.if-n-down.false c.if-down-ge-MOST_PROCESSES.false c.if-own-ne0.true)

pub returns : goal.returns
returns c = c.zero_from-2.ensures ∙ sym (rest_from _ _ _ c.if-n-down.false (λ h. c.if-own-ne0.false))
