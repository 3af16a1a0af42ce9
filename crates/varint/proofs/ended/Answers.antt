-- `varint::ended` meets its contract.
-- Assumes nothing.
use native.Mathlib.Omega.{arith}
use mathlib.Core.Logic.{⊎_elim}
use borrow.Author.Tests.{ltb-true, ltb-false}
use Rattle.varint.proofs.ReadTurns.{not_zero, end_zero, end_over, end_in}
use Rattle.varint.proofs.ended.Goals as goal

pub returns-then-shift-gt0 : goal.returns-then-shift-gt0
returns-then-shift-gt0 c = end_zero _ _ _ _ _ c.if-b-eq0.true (omega (arith, ltb-true))

pub returns-then-limit-v : goal.returns-then-limit-v
returns-then-limit-v c = end_over _ _ _ _ _ c.requires
    (⊎_elim (λ w h. omega (arith, ltb-false)) (λ w h. not_zero _ w) c.else-b-eq0.either) (omega arith)

pub returns : goal.returns
returns c = end_in _ _ _ _ _ c.requires
    (⊎_elim (λ w h. omega (arith, ltb-false)) (λ w h. not_zero _ w) c.else-b-eq0.either) (omega arith)
