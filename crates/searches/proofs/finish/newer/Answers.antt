use native.Mathlib.Omega.{arith}
use Rattle.searches.proofs.Sets.{added_none, added_more, added_all}
use Rattle.searches.proofs.finish.newer.Goals as goal

pub loop-j-init : goal.loop-j-init
loop-j-init c = added_none c.args.shape c.args.set

pub overflow_sub-sum : goal.overflow_sub-sum
overflow_sub-sum c = c.requires.there c.loop-j.j c.loop-j-test.true

pub overflow_add-sum : goal.overflow_add-sum
overflow_add-sum c = omega (arith, c.requires.small c.loop-j.j c.loop-j-test.true)

pub loop-j-preserved : goal.loop-j-preserved
loop-j-preserved c = let at-loop = c.loop-j in
    added_more c.args.shape c.args.set at-loop.sum at-loop.j c.requires at-loop.invariant
    c.loop-j-test.true

pub returns : goal.returns
returns c = let at-loop = c.loop-j in
    added_all c.args.shape c.args.set at-loop.sum at-loop.j at-loop.invariant c.loop-j-test.false
