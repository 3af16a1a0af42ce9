use native.Mathlib.Omega.{arith}
use mathlib.Core.Logic.{⊎_elim}
use borrow.Author.Tests.{ltb-true, ltb-false}
use Rattle.varint.proofs.ReadTurns.{sofar_begun, turn_short, turn_long, turn_zero, turn_over, turn_last, turn_more, not_zero}
use Rattle.varint.proofs.read_number.Goals as goal

pub loop-k-init : goal.loop-k-init
loop-k-init c = sofar_begun _ _ _

pub returns-then-s-i : goal.returns-then-s-i
returns-then-s-i c = turn_short _ _ _ _ _ _ _ _ c.if-s-i.true c.loop-k.invariant

pub returns-then-k-gt0 : goal.returns-then-k-gt0
returns-then-k-gt0 c = turn_zero _ _ _ _ _ _ _ _ c.from-b.ensures (omega arith)
    c.requires (omega arith)
    c.loop-k.invariant _ c.if-b-eq0.true (omega (arith, ltb-true))

pub returns-then-limit-v : goal.returns-then-limit-v
returns-then-limit-v c = turn_over _ _ _ _ _ _ _ _ c.from-b.ensures (omega arith)
    c.requires (omega arith)
    c.loop-k.invariant _ c.if-b-lt128.true
    (⊎_elim (λ w h. omega (arith, ltb-false)) (λ w h. not_zero _ w) c.else-b-eq0.either) (omega arith)

pub returns-then-b-lt128 : goal.returns-then-b-lt128
returns-then-b-lt128 c = turn_last _ _ _ _ _ _ _ _ c.from-b.ensures (omega arith)
    c.requires (omega arith)
    c.loop-k.invariant _ c.if-b-lt128.true
    (⊎_elim (λ w h. omega (arith, ltb-false)) (λ w h. not_zero _ w) c.else-b-eq0.either) (omega arith)

pub loop-k-preserved : goal.loop-k-preserved
loop-k-preserved c = turn_more _ _ _ _ _ _ _ _ c.from-b.ensures (omega arith)
    c.requires (omega arith) c.loop-k.invariant
    c.if-b-lt128.false (omega arith)

pub returns : goal.returns
returns c = turn_long _ _ _ _ _ _ _ _ c.loop-k-test.false c.loop-k.invariant
