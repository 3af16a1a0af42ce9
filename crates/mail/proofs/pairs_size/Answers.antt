use mathlib.Core.Path.{sym, subst, ap, ◌∙◌}
use Prim.Native.Nat.{ℕ, ◌+◌}
use native.Mathlib.Nat.{add-zero}
use native.Mathlib.Omega.{arith}
use lib.ListN.{length}
use Rattle.consistency.specs.Known.{counters}
use Rattle.mail.specs.Sizes.{pair_most}
use Rattle.mail.proofs.Turns.{Measured, measured_none, measured_more, measured_all}
use Rattle.mail.proofs.Pairs.{pair_bytes, pair_parts, pair_size, no_pair, pair_few}
use Rattle.mail.proofs.pairs_size.Goals as goal
use Rattle.mail.proofs.pairs_size.Goals.{then-counter, else-counter}

pub loop-p-init : goal.loop-p-init
loop-p-init c = measured_none (pair_parts (counters c.args.news)) pair_most

pub overflow_add-size : goal.overflow_add-size
overflow_add-size c = omega (arith, pair_few (omega arith) (omega (arith, c.from.ensures)) c.size_of.ensures c.size_of-then-counter.ensures)

pub overflow_add-size-then-counter : goal.overflow_add-size-then-counter
overflow_add-size-then-counter c = omega (arith, pair_few (omega arith) (omega (arith, c.from.ensures)) c.size_of.ensures c.size_of-then-counter.ensures)

pub loop-p-preserved : goal.loop-p-preserved
loop-p-preserved c = let news : ℕ → ℕ = counters c.args.news in
    let l = c.loop-p in
    let there = c.loop-p-test.true in
    let parts = pair_parts news in
    let P : ℕ → Type 0 = Measured pair_most (pair_bytes news) (l.p + 1) in
    elim c.if-counter.branch [
      | then-counter w ↦
          subst P (sym w.size-is)
          (measured_more parts pair_most l.invariant there
          (pair_size news l.p w.if-counter.true w.from.ensures w.size_of.ensures w.size_of-then-counter.ensures)
          (pair_few (omega arith) (omega (arith, w.from.ensures)) w.size_of.ensures w.size_of-then-counter.ensures))
      | else-counter w ↦
          subst P (add-zero l.size ∙ sym w.size-is)
          (measured_more parts pair_most l.invariant there (sym (ap length (no_pair news l.p w.if-counter.false))) (omega arith))
    ]

pub returns : goal.returns
returns c =
    let both = measured_all (pair_parts (counters c.args.news)) pair_most c.loop-p.invariant c.loop-p-test.false in record { value = both.0; upper_bound = both.1 }
