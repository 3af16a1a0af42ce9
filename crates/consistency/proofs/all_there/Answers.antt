use mathlib.Core.Path.{sym, ◌∙◌}
use Rattle.lists.proofs.Before.{before_none, before_more, all_pass, one_fails}
use Rattle.consistency.specs.Set.{all_there}
use Rattle.consistency.proofs.all_there.Goals as goal

pub loop-j-init : goal.loop-j-init
loop-j-init c = before_none

pub returns-then-not-is_there : goal.returns-then-not-is_there
unfolding all_there
returns-then-not-is_there c = one_fails c.loop-j.invariant c.loop-j-test.true (sym c.is_there.ensures ∙ c.if-not-is_there.true)

pub loop-j-preserved : goal.loop-j-preserved
loop-j-preserved c = before_more c.loop-j.invariant c.loop-j-test.true (sym c.is_there.ensures ∙ c.if-not-is_there.false)

pub returns : goal.returns
unfolding all_there
returns c = all_pass c.loop-j.invariant c.loop-j-test.false
