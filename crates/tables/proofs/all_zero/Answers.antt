use mathlib.Core.Path.{refl}
use borrow.Author.Rules.{rules}
use Rattle.tables.proofs.Zeros.{clearing_more, clearing_end}
use Rattle.tables.proofs.all_zero.Goals as goal

pub loop-i-init : goal.loop-i-init
loop-i-init c = record { passed = search rules; fits = search rules; rest = refl }

pub loop-i-preserved : goal.loop-i-preserved
loop-i-preserved c = clearing_more _ _ _ _ _ c.loop-i.invariant c.loop-i-test.true _ c.still_clear-clear.ensures

pub returns : goal.returns
returns c = clearing_end _ _ _ _ _ c.loop-i.invariant c.loop-i-test.false
