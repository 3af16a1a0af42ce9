use mathlib.Core.Path.{◌≡◌, refl, ◌∙◌, ap}
use Prim.Native.Nat.{ℕ, ◌-◌, ◌<◌}
use native.Mathlib.Omega.{arith}
use borrow.Author.Rules.{rules}
use lib.ListN.{length, get_or}
use Rattle.lists.proofs.Filling.{filled_none, filled_more, filled_all}
use Rattle.book.specs.View.{counter_from}
use Rattle.book.proofs.Values.{tally_of}
use Rattle.book.proofs.Starts.{placed_first, placed_row}
use Rattle.consistency.proofs.Permits.{from_one}
use Rattle.matrix.specs.Matrix.{as_row}
use Rattle.machine.proofs.sent_row.Goals as goal

pub bounds-firsts-place : goal.bounds-firsts-place
bounds-firsts-place c = omega (arith, c.requires.whole.0.most)

pub loop-p-init : goal.loop-p-init
loop-p-init c = filled_none (omega arith)

pub counter-requires : goal.counter-requires
counter-requires c =
    let long : length c.args.rows.shape.counts ≡ 16 = search rules in
    let there : c.args.j.0 - 1 < length c.args.rows.shape.counts = omega (arith, c.requires.whole.0.most) in
    record {
      le_r = placed_row c.requires.whole.0.placed (c.args.j.0 - 1) there c.args.r.0 c.requires.le_r;
      le_p = (omega arith, (omega arith, c.requires.whole.0.long));
    }

pub loop-p-preserved : goal.loop-p-preserved
loop-p-preserved c = let a = c.args in
    let at-loop = c.loop-p in
    let f : ℕ → ℕ = λ q. counter_from a.sent.now (get_or a.rows.first (a.j.0 - 1) 0) a.r.0 q in
    filled_more at-loop.invariant c.loop-p-test.true (tally_of (c.counter.ensures ∙ ap f (from_one at-loop.p)))

pub returns : goal.returns
unfolding as_row
returns c =
    let long : length c.args.rows.shape.counts ≡ 16 = search rules in
    let there : c.args.j.0 - 1 < length c.args.rows.shape.counts = omega (arith, c.requires.whole.0.most) in
    filled_all c.loop-p.invariant refl c.loop-p-test.false
    ∙ ap (λ (first : ℕ). as_row (λ q. counter_from c.args.sent.now first c.args.r.0 q))
    (placed_first c.requires.whole.0.placed (c.args.j.0 - 1) there)
