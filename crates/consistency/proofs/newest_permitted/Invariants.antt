-- `newest_permitted` meets its contract. The invariant: what is sought is the newest from the present checkpoint back.
use mathlib.Core.Path.{◌≡◌}
use Prim.Native.Nat.{ℕ, ◌-◌}
use Rattle.book.specs.View.{R}
use Rattle.line_theory.specs.Search.{newest}
use Rattle.consistency.specs.Known.{counters}
use Rattle.consistency.proofs.newest_permitted.Given as goal

abbrev pub invariant-loop-r : goal.invariant-loop-r
invariant-loop-r l =
    let seek : ℕ → ℕ = newest l.rows.shape.n (λ s p. R l.rows.shape l.received (l.j.0 - 1) s p) (counters l.known) in
    seek l.fn.from.0 ≡ seek l.r
