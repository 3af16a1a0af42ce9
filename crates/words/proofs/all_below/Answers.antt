use borrow.Author.Tests.{lt-ltb, le-ltb}
use Rattle.lists.proofs.Before.{before_none, before_more, all_pass, one_fails}
use Rattle.words.specs.Words.{all_below}
use Rattle.words.proofs.all_below.Goals as goal

pub loop-i-init : goal.loop-i-init
loop-i-init c = before_none

pub returns-then-bound-words : goal.returns-then-bound-words
unfolding all_below
returns-then-bound-words c = one_fails c.loop-i.invariant c.loop-i-test.true (le-ltb _ _ c.if-bound-words.true)

pub loop-i-preserved : goal.loop-i-preserved
loop-i-preserved c = before_more c.loop-i.invariant c.loop-i-test.true (lt-ltb _ _ c.if-bound-words.false)

pub returns : goal.returns
unfolding all_below
returns c = all_pass c.loop-i.invariant c.loop-i-test.false
