use mathlib.Core.Path.{◌≡◌, ◌∙◌, ap}
use Prim.Native.Nat.{ℕ, ◌*◌, ◌/◌, ◌%◌, ◌<◌}
use native.Mathlib.Omega.{arith}
use borrow.Author.Rules.{rules}
use lib.ListN.{length, get_or}
use Rattle.lists.proofs.Filling.{filled_none, filled_more, filled_as}
use Rattle.book.specs.View.{counter_from, counter_at}
use Rattle.book.proofs.Values.{tally, tally_of}
use Rattle.book.proofs.Starts.{placed_row, placed_counter}
use Rattle.consistency.specs.Set.{chosen}
use Rattle.consistency.proofs.Permits.{from_one}
use Rattle.plans.proofs.Filled.{filled_rows}
use Rattle.plans.proofs.line_rows.Goals as goal
use Rattle.plans.proofs.line_rows.Goals.{After-first-1}

pub loop-i-init : goal.loop-i-init
loop-i-init c = filled_none (omega (arith, c.requires.0.most))

-- where the first rows are taken out: the process of an entry
there : (c : After-first-1) → let a = c.args in
    (i : ℕ) → i < a.rows.shape.n * 16 → i / 16 < length a.rows.shape.counts
there c i h =
    let long : length c.args.rows.shape.counts ≡ 16 = search rules in
    omega (arith, c.requires.0.most)

pub counter-requires : goal.counter-requires
counter-requires c = let i = c.loop-i.i in
    let h = c.loop-i-test.true in
    record { le_r = placed_row c.requires.0.placed (i / 16) (there (goal.at.counter-requires c).After-first-1 i h) (chosen c.args.line (i / 16)) (c.requires.1 (i / 16) (omega (arith, h))); le_p = (omega arith, (omega arith, c.requires.0.long)) }

pub loop-i-preserved : goal.loop-i-preserved
loop-i-preserved c = let a = c.args in
    let at-loop = c.loop-i in
    let j = at-loop.i / 16 in
    let f : ℕ → ℕ = counter_from a.table.now (get_or a.rows.first j 0) (chosen a.line j) in
    let here = c.counter.ensures ∙ ap f (from_one (at-loop.i % 16)) in
    filled_more at-loop.invariant c.loop-i-test.true (tally_of here)

pub returns : goal.returns
returns c = let a = c.args in
    let f : ℕ → ℕ → ℕ = λ j p. counter_at a.rows.shape.counts a.table.now j (chosen a.line j) p in
    let filled = filled_as c.loop-i.invariant {g = λ i. tally (f (i / 16) (i % 16))} (λ i h.
    ap tally (placed_counter c.requires.0.placed (i / 16) (there (goal.at.returns c).After-first-1 i h) a.table.now (chosen a.line (i / 16)) (i % 16))) in
    filled_rows a.rows.shape.n f filled c.loop-i-test.false
