-- `writer::write_book` meets its contract. The invariant: with the processes left written as well, all processes stand
-- behind their number, and the start carried to the next process is its first row.
use mathlib.Core.List.{List}
use Prim.Native.Nat.{ℕ, ◌≤◌}
use Rattle.book.specs.declared.Shape.{Shape}
use Rattle.book.specs.Starts.{RowStart}
use Rattle.writer.specs.Parts.{processes_bytes}
use Rattle.writer.proofs.Turns.{Put}
use Rattle.writer.proofs.write_book.Given as goal

pub record Written (shape : Shape) (sent received out₀ : List ℕ) (next₀ : ℕ) (out : List ℕ) (next first j : ℕ) : Type 0 where
  pub within : j ≤ shape.n
  pub start : RowStart shape.counts j first
  pub put : Put (processes_bytes shape 0 0 sent received) out₀ next₀ (processes_bytes shape j first sent received) out next

abbrev pub invariant-loop-j : goal.invariant-loop-j
invariant-loop-j l =
    Written (record { n = l.n; counts = l.counts }) l.sent l.received l.initial.out l.initial.next l.out l.next l.first l.j
