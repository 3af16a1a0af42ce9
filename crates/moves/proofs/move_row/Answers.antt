use mathlib.Core.Path.{ap, ◌∙◌}
use Prim.Native.Nat.{ℕ, ◌+◌, ◌-◌, ◌*◌}
use native.Mathlib.Omega.{arith}
use Rattle.lists.proofs.Stores.{stored_none, stored_more, stored_after, stored_all}
use Rattle.consistency.specs.Known.{counters}
use Rattle.moves.proofs.move_row.Goals as goal

pub loop-p-init : goal.loop-p-init
loop-p-init c = stored_none

pub loop-p-preserved : goal.loop-p-preserved
loop-p-preserved c = let l = c.loop-p in
    let a = c.args in
    let old = stored_after l.invariant (a.from * 16 + l.p) (omega arith) in
    stored_more l.invariant c.loop-p-test.true _ (c.saturating_sub.ensures ∙ ap (λ (v : ℕ). v - counters a.off l.p) old)

pub shape_of-table : goal.shape_of-table
shape_of-table c = c.loop-p.invariant.same

pub returns : goal.returns
returns c = stored_all c.loop-p.invariant c.loop-p-test.false
