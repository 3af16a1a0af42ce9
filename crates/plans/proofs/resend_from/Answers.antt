use mathlib.Core.Path.{◌≡◌, ap}
use mathlib.Core.List.{List}
use Prim.Native.Nat.{ℕ, ◌+◌, ◌*◌, ◌/◌, ◌%◌, ◌≤◌}
use native.Mathlib.Omega.{arith}
use lib.ListN.{replicate}
use Rattle.lists.proofs.Filling.{Filled, filled_none, filled_more, filled_as}
use Rattle.book.specs.declared.Count.{Count}
use Rattle.book.proofs.Values.{tally, tally_of}
use Rattle.consistency.specs.Known.{counters}
use Rattle.matrix.specs.Matrix.{entry}
use Rattle.restart.specs.Plan.{first_missing, last_missing}
use Rattle.restart.specs.Values.{rows_of}
use Rattle.plans.proofs.Filled.{filled_rows}
use Rattle.plans.proofs.resend_from.Goals as goal

-- row after row
by-entry : (g : ℕ → ℕ → ℕ) (n : ℕ) (received sent : List Count) {l : List Count} {k : ℕ}
    → Filled (tally 0) (replicate 256 (tally 0)) (n * 16) (λ i. tally (g (counters received i) (counters sent i))) l k → n * 16 ≤ k
    → l ≡ rows_of n (λ a b. g (entry received a b) (entry sent a b))
by-entry g n received sent filled =
    filled_rows n (λ a b. g (entry received a b) (entry sent a b)) (filled_as filled (λ i h. at i))
  where
    at : (i : ℕ) → tally (g (counters received i) (counters sent i))
        ≡ tally (g (entry received (i / 16) (i % 16)) (entry sent (i / 16) (i % 16)))
    at i =
        let same : i ≡ i / 16 * 16 + i % 16 = omega arith in
        ap (λ (k : ℕ). tally (g (counters received k) (counters sent k))) same

pub loop-i-init : goal.loop-i-init
loop-i-init c = (filled_none (omega arith), filled_none (omega arith))

pub loop-i-preserved : goal.loop-i-preserved
loop-i-preserved c = let inv = c.loop-i.invariant in
    let more = c.loop-i-test.true in (
      filled_more inv.0 more (tally_of c.first_missing.ensures),
      filled_more inv.1 more (tally_of c.last_missing.ensures),
    )

pub returns : goal.returns
returns c = let a = c.args in
    let inv = c.loop-i.invariant in
    record { first_value = by-entry first_missing a.n a.received a.sent inv.0 c.loop-i-test.false; last_value = by-entry last_missing a.n a.received a.sent inv.1 c.loop-i-test.false }
