-- `tables::everything_unused_zero` meets its contract.
use mathlib.Core.Path.{sym, ◌∙◌}
use Rattle.tables.proofs.everything_unused_zero.Goals as goal

pub returns-then-not-absent_zero : goal.returns-then-not-absent_zero
returns-then-not-absent_zero c = rw (sym c.absent_zero.ensures ∙ c.if-not-absent_zero.true)

pub returns-then-not-unused_zero : goal.returns-then-not-unused_zero
returns-then-not-unused_zero c = rw (sym c.absent_zero.ensures ∙ c.if-not-absent_zero.false, sym c.unused_zero.ensures ∙ c.if-not-unused_zero.true)

pub returns : goal.returns
returns c = rw (sym c.absent_zero.ensures ∙ c.if-not-absent_zero.false, sym c.unused_zero.ensures ∙ c.if-not-unused_zero.false)
    c.unused_zero-2.ensures
