use mathlib.Core.Logic.{⊎_elim}
use Rattle.consistency.specs.Known.{counters}
use Rattle.matrix.specs.Entries.{all_lower}
use Rattle.lists.proofs.Before.{before_none, before_more, all_pass, one_fails}
use Rattle.matrix.proofs.News.{lower_mark, lower_counter, not_lower}
use Rattle.matrix.proofs.all_lower.Goals as goal

pub loop-p-init : goal.loop-p-init
loop-p-init c = before_none

pub returns-then-y-x : goal.returns-then-y-x
unfolding all_lower
returns-then-y-x c = let a = c.args in
    let p = c.loop-p.p in
    one_fails c.loop-p.invariant c.loop-p-test.true
    (not_lower (counters a.news p) (counters a.held p) c.if-x.true (c.if-y-x.true))

pub loop-p-preserved : goal.loop-p-preserved
loop-p-preserved c = let a = c.args in
    let p = c.loop-p.p in
    before_more c.loop-p.invariant c.loop-p-test.true
    (⊎_elim
    (λ t. lower_counter (counters a.news p) (counters a.held p) t.1)
    (λ t. lower_mark (counters a.news p) (counters a.held p) t)
    c.else-x.either)

pub returns : goal.returns
unfolding all_lower
returns c = all_pass c.loop-p.invariant c.loop-p-test.false
