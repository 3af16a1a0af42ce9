-- `writer::checkpoints_size` meets its contract. The invariant: the bytes counted and those of the checkpoints left are
-- all.
use Prim.Native.Nat.{◌+◌, ◌-◌, ◌*◌, ◌≤◌}
use Rattle.writer.specs.Parts.{checkpoints_bytes}
use Rattle.writer.proofs.Turns.{Counted}
use Rattle.writer.proofs.checkpoints_size.Given as goal

abbrev pub invariant-loop-r : goal.invariant-loop-r
invariant-loop-r l =
    (l.r ≤ l.count)
    × (l.size ≤ 300 * l.r)
    × Counted (checkpoints_bytes l.n l.j l.first l.count l.sent l.received) (checkpoints_bytes l.n l.j (l.first + l.r) (l.count - l.r) l.sent l.received) l.size
