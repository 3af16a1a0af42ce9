use mathlib.Core.Path.{refl, sym, ◌∙◌}
use native.Mathlib.Omega.{arith}
use Rattle.lists.specs.Over.{tab_from}
use Rattle.matrix.specs.Matrix.{as_row}
use Rattle.message.proofs.PairLoop.{pair_in, sofar_begun, sofar_short, sofar_half, sofar_refused, sofar_more, sofar_over, sofar_ended}
use Rattle.message.specs.Parts.{end_number}
use Rattle.message.proofs.read_counted.Goals as goal

pub loop-k-init : goal.loop-k-init
unfolding as_row tab_from
loop-k-init c = let a = c.args in sofar_begun a.n (end_number a.end) a.s.now a.at a.count _ refl refl

pub returns-in_err-process : goal.returns-in_err-process
returns-in_err-process c = c.from_residual.ensures ∙ sofar_short _ _ _ _ _ _ _ _ _ c.loop-k.invariant c.loop-k-test.true
    (sym c.read_number.ensures ∙ c.in_err-process.was)

pub returns-in_err-counter : goal.returns-in_err-counter
returns-in_err-counter c = c.from_residual-in_err-counter.ensures ∙ sofar_half _ _ _ _ _ _ _ _ _ c.loop-k.invariant c.loop-k-test.true _ _
    (sym c.read_number.ensures ∙ c.in_ok-process.was)
    (sym c.read_number-in-loop-k.ensures ∙ c.in_err-counter.was)

pub returns-then-not-pair_formed : goal.returns-then-not-pair_formed
returns-then-not-pair_formed c = sofar_refused _ _ _ _ _ _ _ _ _ c.loop-k.invariant c.loop-k-test.true _ _
    (sym c.read_number.ensures ∙ c.in_ok-process.was) _ _
    (sym c.read_number-in-loop-k.ensures ∙ c.in_ok-counter.was)
    (sym c.pair_formed.ensures ∙ c.if-not-pair_formed.true)

pub overflow_sub-place : goal.overflow_sub-place
overflow_sub-place c = let p = pair_in _ _ _ _ _ (sym c.pair_formed.ensures ∙ c.if-not-pair_formed.false) in omega arith

pub overflow_cast-news : goal.overflow_cast-news
overflow_cast-news c = let p = pair_in _ _ _ _ _ (sym c.pair_formed.ensures ∙ c.if-not-pair_formed.false) in omega (arith, p)

pub offset_bounds-news-place : goal.offset_bounds-news-place
offset_bounds-news-place c = let p = pair_in _ _ _ _ _ (sym c.pair_formed.ensures ∙ c.if-not-pair_formed.false) in
    omega arith

pub bounds-news-place : goal.bounds-news-place
bounds-news-place c = let p = pair_in _ _ _ _ _ (sym c.pair_formed.ensures ∙ c.if-not-pair_formed.false) in
    omega arith

pub loop-k-preserved : goal.loop-k-preserved
loop-k-preserved c = sofar_more _ _ _ _ _ _ _ _ _ c.loop-k.invariant c.loop-k-test.true _ _
    (sym c.read_number.ensures ∙ c.in_ok-process.was) _ _
    (sym c.read_number-in-loop-k.ensures ∙ c.in_ok-counter.was)
    (sym c.pair_formed.ensures ∙ c.if-not-pair_formed.false) _ refl

pub returns-then-next-s : goal.returns-then-next-s
returns-then-next-s c = sofar_over _ _ _ _ _ _ _ _ _ c.loop-k.invariant c.loop-k-test.false c.if-next-s.true

pub returns : goal.returns
returns c = sofar_ended _ _ _ _ _ _ _ _ _ c.loop-k.invariant c.loop-k-test.false c.if-next-s.false
