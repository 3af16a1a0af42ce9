use mathlib.Core.Path.{◌≡◌}
use native.Mathlib.Omega.{arith}
use borrow.Author.Rules.{rules}
use lib.ListN.{length}
use lib.Seq.{take_all}
use Rattle.tables.proofs.Zeros.{zeros_more, zeros_fail, zeros_end}
use Rattle.tables.proofs.absent_zero.Goals as goal

pub loop-j-init : goal.loop-j-init
loop-j-init c = let counts = c.args.shape.counts in
    let long : length counts ≡ 16 = search rules in
    record { passed = search rules; fits = omega arith; rest = rw (take_all 16 counts (omega arith)) }

pub returns-then-counts-j-ne0 : goal.returns-then-counts-j-ne0
returns-then-counts-j-ne0 c = zeros_fail _ _ _ _ c.loop-j.invariant (omega arith) c.if-counts-j-ne0.true

pub loop-j-preserved : goal.loop-j-preserved
loop-j-preserved c = zeros_more _ _ _ _ c.loop-j.invariant (omega arith) c.if-counts-j-ne0.false

pub returns : goal.returns
returns c = zeros_end _ _ _ _ c.loop-j.invariant c.loop-j-test.false
