-- The columns of the others in a row.
use mathlib.Core.Path.{◌≡◌}
use Prim.Native.Nat.{ℕ}
use native.Mathlib.Decide.{dec_lt}
use native.Mathlib.Omega.{arith}
use borrow.Author.Tests.{lt-ltb, le-ltb}
use Rattle.book.specs.Tables.{partner_column}

-- no other stands in the own column
pub column_other : (j k : ℕ) → partner_column j k ≡ j → ⊥
unfolding partner_column
column_other j k = elim (dec_lt k j) [
  | yes h ↦ rw (lt-ltb k j h) (λ e. absurd (omega arith))
  | no h ↦ rw (le-ltb k j (omega arith)) (λ e. absurd (omega arith))
]
