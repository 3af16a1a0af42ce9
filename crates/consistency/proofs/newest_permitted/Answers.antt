use mathlib.Core.Path.{◌≡◌, sym, ap, ◌∙◌}
use Prim.Native.Nat.{ℕ, ◌-◌}
use native.Mathlib.Omega.{arith}
use Rattle.book.specs.View.{R}
use Rattle.line_theory.specs.Search.{newest}
use Rattle.consistency.specs.Known.{counters}
use Rattle.consistency.proofs.Permits.{permits_none, newest_none, newest_here, newest_back}
use Rattle.consistency.proofs.newest_permitted.Goals as goal

pub returns-then-is_none : goal.returns-then-is_none
returns-then-is_none c = let a = c.args in
    let rows : ℕ → ℕ → ℕ = λ s p. R a.rows.shape a.received.now (a.j.0 - 1) s p in
    let r = c.loop-r.r in
    sym
    (c.loop-r.invariant
    ∙ newest_here a.rows.shape.n rows (counters a.known) r (omega arith)
    (permits_none a.rows.shape.n (rows r) (counters a.known) c.test_row.result c.test_row.ensures _ c.is_none.ensures
    ∙ c.if-is_none.true))

pub loop-r-preserved : goal.loop-r-preserved
loop-r-preserved c = let a = c.args in
    let rows : ℕ → ℕ → ℕ = λ s p. R a.rows.shape a.received.now (a.j.0 - 1) s p in
    let r = c.loop-r.r in
    c.loop-r.invariant
    ∙ newest_back a.rows.shape.n rows (counters a.known) r (omega arith)
    (permits_none a.rows.shape.n (rows r) (counters a.known) c.test_row.result c.test_row.ensures _ c.is_none.ensures
    ∙ c.if-is_none.false)

pub returns : goal.returns
returns c = let a = c.args in
    let rows : ℕ → ℕ → ℕ = λ s p. R a.rows.shape a.received.now (a.j.0 - 1) s p in
    let none : c.loop-r.r ≡ 0 = omega arith in
    sym
    (c.loop-r.invariant
    ∙ ap (newest a.rows.shape.n rows (counters a.known)) none
    ∙ newest_none a.rows.shape.n rows (counters a.known))
