-- `tables::oldest_passes` meets its contract.
use mathlib.Core.Path.{sym, ◌∙◌}
use mathlib.Core.Bool.{true≢false}
use Rattle.tables.proofs.Zeros.{zeros_each}
use Rattle.tables.proofs.quick.oldest_passes.Goals as goal

pub returns-then-zeros : goal.returns-then-zeros
returns-then-zeros c e z = zeros_each _ _ _ (sym c.all_zero.ensures ∙ e)

pub returns-else-zeros : goal.returns-else-zeros
returns-else-zeros c e z = absurd (true≢false (sym z ∙ c.if-zeros.false))
