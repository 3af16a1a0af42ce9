-- Somebody is flagged, or nobody.
use mathlib.Core.Path.{◌≡◌, ap}
use mathlib.Core.Bool.{Bool, true, false, not}
use mathlib.Core.List.{List}
use Prim.Native.Nat.{ℕ, ◌<◌}
use borrow.Author.Tests.{not-true, not-false}
use Rattle.lists.proofs.Over.{all_in, all_out, all_not, all_witness}
use Rattle.machine.specs.Flags.{flag, someone}

module _ (flags : List Bool) where
  abbrev unflagged : ℕ → Bool
  unflagged p = not (flag flags p)

  pub some_flagged : someone flags ≡ true → (p : ℕ) × (p < 16) × (flag flags p ≡ true)
  unfolding someone
  some_flagged e = let at = all_witness 16 unflagged (not-true _ e) in (at.0, at.1, not-false (flag flags at.0) at.2)

  pub none_flagged : someone flags ≡ false → (p : ℕ) → p < 16 → flag flags p ≡ false
  unfolding someone
  none_flagged e p h = not-true (flag flags p) (all_in 16 unflagged (not-false _ e) p h)

  pub flagged_some : (p : ℕ) → p < 16 → flag flags p ≡ true → someone flags ≡ true
  unfolding someone
  flagged_some p h e = ap not (all_not 16 unflagged p h (ap not e))

  pub flagged_none : ((p : ℕ) → p < 16 → flag flags p ≡ false) → someone flags ≡ false
  unfolding someone
  flagged_none none = ap not (all_out 16 unflagged (λ p h. ap not (none p h)))
