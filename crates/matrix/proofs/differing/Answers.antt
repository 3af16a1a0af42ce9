-- `differing` meets its contract.
use mathlib.Core.Path.{sym, ◌∙◌}
use Rattle.matrix.proofs.differing.Goals as goal

pub returns-then-eq : goal.returns-then-eq
returns-then-eq c = rw (sym c.eq.ensures ∙ c.if-eq.true)

pub returns-else-eq : goal.returns-else-eq
returns-else-eq c = rw (sym c.eq.ensures ∙ c.if-eq.false)
