-- `writer::write_checkpoints` meets its contract. The invariant: with the checkpoints left written as well, `out` is as
-- the contract says.
use Prim.Native.Nat.{◌+◌, ◌-◌, ◌≤◌}
use Rattle.writer.specs.Parts.{checkpoints_bytes}
use Rattle.writer.proofs.Turns.{Put}
use Rattle.writer.proofs.write_checkpoints.Given as goal

abbrev pub invariant-loop-r : goal.invariant-loop-r
invariant-loop-r l =
    (l.r ≤ l.count)
    × Put (checkpoints_bytes l.n l.j l.first l.count l.sent l.received) l.initial.out l.at (checkpoints_bytes l.n l.j (l.first + l.r) (l.count - l.r) l.sent l.received) l.out l.next
