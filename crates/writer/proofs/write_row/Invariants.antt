-- `writer::write_row` meets its contract. The invariant: with the counters left written as well, `out` is as the
-- contract says.
use Prim.Native.Nat.{◌-◌, ◌≤◌}
use Rattle.writer.specs.Parts.{row_bytes}
use Rattle.writer.proofs.Turns.{Put}
use Rattle.writer.proofs.write_row.Given as goal

abbrev pub invariant-loop-k : goal.invariant-loop-k
invariant-loop-k l =
    (l.k ≤ l.n - 1) × Put (row_bytes l.n l.j l.row 0 l.table) l.initial.out l.at (row_bytes l.n l.j l.row l.k l.table) l.out l.next
