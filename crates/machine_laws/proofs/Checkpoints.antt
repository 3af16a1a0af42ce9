-- The test that a checkpoint exists.
use mathlib.Core.Path.{◌≡◌}
use mathlib.Core.Bool.{true}
use Prim.Native.Nat.{ℕ, ◌≤◌}
use borrow.Author.Tests.{leb-true, le-leb}
use lib.Dec.{leb}
use Rattle.lists.proofs.Tests.{and_both, both_and}
use Rattle.machine.specs.Own.{Own, has_checkpoint}

module _ (own : Own) (r : ℕ) where
  pub checkpoint_in : has_checkpoint own r ≡ true → (1 ≤ r) × (r ≤ own.count)
  checkpoint_in h = let b = and_both (leb 1 r) (leb r own.count) h in (leb-true 1 r b.0, leb-true r own.count b.1)

  pub checkpoint_out : 1 ≤ r → r ≤ own.count → has_checkpoint own r ≡ true
  checkpoint_out some most = both_and (leb 1 r) (leb r own.count) (le-leb 1 r some) (le-leb r own.count most)
