-- `writer::book_size` meets its contract. The invariant: the bytes counted and those of the processes left are all, and the start
-- carried to the next process is its first row.
use mathlib.Core.List.{List}
use Prim.Native.Nat.{ℕ, ◌+◌, ◌*◌, ◌≤◌}
use Rattle.book.specs.Lent.{lent}
use Rattle.book.specs.declared.Shape.{Shape}
use Rattle.book.specs.Starts.{RowStart}
use Rattle.book.specs.Write.{bytes_of}
use Rattle.writer.specs.Parts.{processes_bytes}
use Rattle.writer.proofs.Turns.{Counted}
use Rattle.writer.proofs.book_size.Given as goal

pub record Sized (shape : Shape) (sent received : List ℕ) (size first j : ℕ) : Type 0 where
  pub within : j ≤ shape.n
  pub small : size ≤ 10 + 80000 * j
  pub start : RowStart shape.counts j first
  pub counted : Counted (bytes_of (lent shape sent received)) (processes_bytes shape j first sent received) size

abbrev pub invariant-loop-j : goal.invariant-loop-j
invariant-loop-j l = Sized (record { n = l.n; counts = l.counts }) l.sent l.received l.size l.first l.j
