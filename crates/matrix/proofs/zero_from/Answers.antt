use mathlib.Core.Path.{sym}
use Rattle.matrix.proofs.Zeros.{zeros_none, zeros_more, zeros_fail, zeros_all}
use Rattle.matrix.proofs.zero_from.Goals as goal

pub loop-p-init : goal.loop-p-init
loop-p-init c = zeros_none _ _

pub returns-then-x-ne0 : goal.returns-then-x-ne0
returns-then-x-ne0 c = let at-loop = c.loop-p in
    sym (zeros_fail _ _ at-loop.p at-loop.invariant c.loop-p-test.true c.if-x-ne0.true)

pub loop-p-preserved : goal.loop-p-preserved
loop-p-preserved c = let at-loop = c.loop-p in
    zeros_more _ _ at-loop.p at-loop.invariant c.if-x-ne0.false

pub returns : goal.returns
returns c = sym (zeros_all _ _ c.loop-p.p c.loop-p.invariant c.loop-p-test.false)
