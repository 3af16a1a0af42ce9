-- A word as a stage.
use mathlib.Core.Path.{◌≡◌, refl}
use Prim.Native.Nat.{ℕ, zero, suc}
use Rattle.participant.specs.declared.Stage.TheVariants.{Ended}
use Rattle.words.specs.Participant.{stage_in}

-- from 2 on
pub stage_ended : (w : ℕ) → (w ≡ 0 → ⊥) → (w ≡ 1 → ⊥) → Ended ≡ stage_in w
stage_ended zero none one = absurd (none refl)
stage_ended (suc zero) none one = absurd (one refl)
stage_ended (suc (suc w)) none one = refl
