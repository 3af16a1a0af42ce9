-- The three purposes.
use mathlib.Core.Path.{◌≡◌}
use mathlib.Core.Bool.{true}
use mathlib.Core.Logic.{◌⊎◌, inl, inr}
use Prim.Native.Nat.{ℕ}
use native.Mathlib.Decide.{ℕ_discrete}
use native.Mathlib.Omega.{arith}
use borrow.Author.Tests.{leb-true}
use lib.Dec.{leb}
use Rattle.lists.proofs.Tests.{and_both}
use Rattle.book.specs.Names.{is_purpose}
use Rattle.restart.specs.Plan.{advances, restarts}

pub three_purposes : (purpose : ℕ) → is_purpose purpose ≡ true → (purpose ≡ 2) ⊎ ((purpose ≡ 1) ⊎ (purpose ≡ 3))
three_purposes purpose is =
    let both = and_both (leb 1 purpose) (leb purpose 3) is in
    let least = leb-true 1 purpose both.0 in
    let most = leb-true purpose 3 both.1 in
    elim (ℕ_discrete purpose 2) [
      | yes two ↦ inl two
      | no other ↦ elim (ℕ_discrete purpose 1) [ yes one ↦ inr (inl one) | no more ↦ inr (inr (omega (arith, least, most, other, more))) ]
    ]

pub advance_is : (purpose : ℕ) → (purpose ≡ 1) ⊎ (purpose ≡ 3) → advances purpose ≡ true
advance_is purpose (inl one) = rw one
advance_is purpose (inr three) = rw three

pub restart_is : (purpose : ℕ) → (purpose ≡ 2) ⊎ (purpose ≡ 3) → restarts purpose ≡ true
restart_is purpose (inl two) = rw two
restart_is purpose (inr three) = rw three
