-- `not_known_at` meets its contract.
use mathlib.Core.Path.{sym, ◌∙◌}
use Rattle.matrix.proofs.not_known_at.Goals as goal

pub returns-then-is_pair : goal.returns-then-is_pair
returns-then-is_pair c = rw (sym c.is_pair.ensures ∙ c.if-is_pair.true)

pub returns-else-is_pair : goal.returns-else-is_pair
returns-else-is_pair c = rw (sym c.is_pair.ensures ∙ c.if-is_pair.false)
