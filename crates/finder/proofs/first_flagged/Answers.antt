use native.Mathlib.Omega.{arith}
use Rattle.lists.proofs.Before.{before_none, before_more}
use Rattle.finder.proofs.first_flagged.Goals as goal

pub loop-j-init : goal.loop-j-init
loop-j-init c = before_none

pub returns-then-flags-j : goal.returns-then-flags-j
returns-then-flags-j c = let at-loop = c.loop-j in
    record { within = omega arith; here = λ _. c.if-flags-j.true; before = at-loop.invariant.so_far }

pub loop-j-preserved : goal.loop-j-preserved
loop-j-preserved c = before_more c.loop-j.invariant (omega arith) c.if-flags-j.false

pub returns : goal.returns
returns c = record { within = omega arith; here = λ h. absurd (omega arith); before = λ i k. c.loop-j.invariant.so_far i (omega arith) }
