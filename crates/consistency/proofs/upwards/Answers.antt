use mathlib.Core.Path.{sym, ap, ◌∙◌}
use mathlib.Core.Bool.{not}
use Prim.Native.Nat.{ℕ, ◌+◌, ◌-◌}
use native.Mathlib.Omega.{arith}
use Rattle.book.specs.View.{R}
use Rattle.consistency.specs.Known.{counters}
use Rattle.consistency.proofs.Permits.{permits_is, newest_here}
use Rattle.consistency.proofs.Near.{found_up}
use Rattle.consistency.proofs.upwards.Goals as goal

pub returns-then-is_some : goal.returns-then-is_some
returns-then-is_some c =
    let a = c.args in
    let rows : ℕ → ℕ → ℕ = λ r p. R a.rows.shape a.received.now (a.j.0 - 1) r p in
    let last = c.loop-last.last in
    found_up a.rows.shape.n _ rows (counters a.known) c.requires.rises last c.loop-last.invariant c.loop-last-test.true
    (permits_is a.rows.shape.n (rows (last + 1)) (counters a.known) c.test_row.result c.test_row.ensures
    ∙ ap not (sym c.is_some.ensures ∙ c.if-is_some.true))

pub loop-last-preserved : goal.loop-last-preserved
loop-last-preserved c =
    let a = c.args in
    let rows : ℕ → ℕ → ℕ = λ r p. R a.rows.shape a.received.now (a.j.0 - 1) r p in
    let last = c.loop-last.last in
    newest_here a.rows.shape.n rows (counters a.known) (last + 1) (omega arith)
    (permits_is a.rows.shape.n (rows (last + 1)) (counters a.known) c.test_row.result c.test_row.ensures
    ∙ ap not (sym c.is_some.ensures ∙ c.if-is_some.false))
