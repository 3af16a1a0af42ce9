-- `newest_near` meets its contract.
use mathlib.Core.Path.{sym, ◌∙◌}
use Prim.Native.Nat.{ℕ, ◌-◌}
use Rattle.book.specs.View.{R}
use Rattle.consistency.specs.Known.{counters}
use Rattle.consistency.proofs.Near.{found_down}
use Rattle.consistency.proofs.newest_near.Goals as goal

pub returns-then-down-from : goal.returns-then-down-from
returns-then-down-from c = let a = c.args in
    let received-by : ℕ → ℕ → ℕ = λ r p. R a.rows.shape a.received.now (a.j.0 - 1) r p in
    let from = c.within-from in
    let found = c.newest_permitted-down in
    found_down a.rows.shape.n _ received-by (counters a.known) c.requires.rises from.result.0 found.result.0 from.ensures
    found.ensures
    c.if-down-from.true

pub upwards-requires : goal.upwards-requires
upwards-requires c = record { whole = c.requires.whole; rises = c.requires.rises; from_bound = c.within-from.ensures; from_value = sym c.newest_permitted-down.ensures ∙ c.if-down-from.false }
