use mathlib.Core.Path.{sym, subst}
use Prim.Native.Nat.{ℕ, ◌+◌}
use Rattle.consistency.specs.Known.{counters}
use Rattle.message.proofs.Pairs.{Counted, counted_none, counted_more, counted_same, counted_all}
use Rattle.message.proofs.pair_count.Goals as goal
use Rattle.message.proofs.pair_count.Goals.{then-counter, else-counter}

pub loop-p-init : goal.loop-p-init
loop-p-init c = counted_none (counters c.args.news)

pub loop-p-preserved : goal.loop-p-preserved
loop-p-preserved c = let news : ℕ → ℕ = counters c.args.news in
    let at-loop = c.loop-p in
    let there = c.loop-p-test.true in
    let P : ℕ → Type 0 = Counted news (at-loop.p + 1) in
    elim c.if-counter.branch [
      | then-counter w ↦ subst P (sym w.count-is) (counted_more news at-loop.p at-loop.count at-loop.invariant there w.if-counter.true)
      | else-counter w ↦ subst P (sym w.count-is) (counted_same news at-loop.p at-loop.count at-loop.invariant there w.if-counter.false)
    ]

pub returns : goal.returns
returns c = let both = let at-loop = c.loop-p in
    counted_all (counters c.args.news) at-loop.p at-loop.count at-loop.invariant c.loop-p-test.false in record { value = both.0; upper_bound = both.1 }
