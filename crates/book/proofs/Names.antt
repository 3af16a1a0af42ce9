-- A process that question 10 passes.
use mathlib.Core.Path.{◌≡◌}
use mathlib.Core.Bool.{true}
use Prim.Native.Nat.{ℕ, ◌≤◌}
use lib.Dec.{leb}
use borrow.Author.Tests.{leb-true}
use Rattle.lists.proofs.Tests.{and_both}
use Rattle.book.specs.Names.{is_named}

pub named_in : (n process : ℕ) → is_named n process ≡ true → (1 ≤ process) × (process ≤ n)
named_in n process h =
    let both = and_both (leb 1 process) (leb process n) h in (leb-true 1 process both.0, leb-true process n both.1)
