-- Who is polled: the participants among those whose column differs.
use mathlib.Core.Path.{◌≡◌, refl, sym, ap, ◌∙◌}
use mathlib.Core.Bool.{Bool, true, false, ◌&&◌}
use mathlib.Core.List.{List}
use Prim.Native.Nat.{ℕ, ◌-◌}
use Rattle.lists.specs.Over.{tab}
use Rattle.lists.proofs.Over.{tab_same}
use Rattle.matrix.specs.Whole.{columns_differ}
use Rattle.matrix.proofs.Sweep.{differs_at}
use Rattle.machine.specs.Named.{is_participant}
use Rattle.machine.specs.Flags.{flag}
use Rattle.initiator.specs.declared.Initiator.{Initiator}
use Rattle.initiator.specs.Step.{polled}

abbrev pub asked : ℕ → ℕ → List Bool → ℕ → Bool
asked n own differ p = is_participant n own p && flag differ p

-- the second test is put only where the first, whose answer is b, is passed
module _ (t d b r : Bool) (e : b ≡ t) where
  pub both_asked : b ≡ true → r ≡ d → r ≡ (t && d)
  both_asked h k = rw (sym e ∙ h) k

  pub first_fails : b ≡ false → r ≡ b → r ≡ (t && d)
  first_fails h k = rw (sym e ∙ h) (k ∙ h)

pub asked_all : (state : Initiator) (differ : List Bool) → differ ≡ columns_differ state.matrix state.copy
    → tab 16 (asked state.n (state.me.0 - 1) differ) ≡ polled state
unfolding polled
asked_all state differ e =
    tab_same 16 16 (asked state.n (state.me.0 - 1) differ) _ refl
    (λ p h.
    ap (λ (b : Bool). is_participant state.n (state.me.0 - 1) p && b)
    (ap (λ (l : List Bool). flag l p) e ∙ differs_at state.matrix state.copy p h))
