-- `upwards` meets its contract. The invariant: the present checkpoint is the newest permitted from itself back.
use mathlib.Core.Path.{◌≡◌}
use Prim.Native.Nat.{◌-◌}
use Rattle.book.specs.View.{R}
use Rattle.line_theory.specs.Search.{newest}
use Rattle.consistency.specs.Known.{counters}
use Rattle.consistency.proofs.upwards.Given as goal

abbrev pub invariant-loop-last : goal.invariant-loop-last
invariant-loop-last l =
    newest l.rows.shape.n (λ s p. R l.rows.shape l.received (l.j.0 - 1) s p) (counters l.known) l.last ≡ l.last
