use mathlib.Core.Path.{refl}
use native.Mathlib.Omega.{arith}
use Rattle.lists.proofs.Filling.{filled_none, filled_more}
use Rattle.matrix.specs.Matrix.{entry}
use Rattle.plans.proofs.Filled.{filled_rows}
use Rattle.plans.proofs.by_sender.Goals as goal

pub loop-i-init : goal.loop-i-init
loop-i-init c = filled_none (omega arith)

pub loop-i-preserved : goal.loop-i-preserved
loop-i-preserved c = filled_more c.loop-i.invariant c.loop-i-test.true refl

pub returns : goal.returns
returns c = let a = c.args in
    filled_rows a.n (λ j p. entry a.received p j) c.loop-i.invariant c.loop-i-test.false
