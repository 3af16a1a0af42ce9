-- `writer::row_size` meets its contract. The invariant: the bytes counted and those of the counters left are all.
use Prim.Native.Nat.{◌-◌, ◌*◌, ◌≤◌}
use Rattle.writer.specs.Parts.{row_bytes}
use Rattle.writer.proofs.Turns.{Counted}
use Rattle.writer.proofs.row_size.Given as goal

abbrev pub invariant-loop-k : goal.invariant-loop-k
invariant-loop-k l =
    (l.k ≤ l.n - 1) × (l.size ≤ 10 * l.k) × Counted (row_bytes l.n l.j l.row 0 l.table) (row_bytes l.n l.j l.row l.k l.table) l.size
