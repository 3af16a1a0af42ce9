-- A step is one of three.
use mathlib.Core.Path.{◌≡◌, refl}
use mathlib.Core.Bool.{Bool, true, false}
use lib.Dec.{eqb}
use borrow.Author.Tests.{eqb-true, eqb-false}
use Rattle.lists.specs.Pick.{pick}
use Rattle.message.specs.declared.Message.{Message}
use Rattle.machine.specs.Own.{Own}
use Rattle.machine.specs.Sends.{is_termination}
use Rattle.participant.specs.declared.Participant.{Participant}
use Rattle.participant.specs.declared.ParticipantStep.{ParticipantStep}
use Rattle.participant.specs.Step.{end_on_oldest, end, step_back, report_of, silent, step}

module _ (own : Own) (state : Participant) (m : Message) where
  pub by_step : (P : ParticipantStep → Type 0) → (m.head.purpose ≡ 2 → P (silent (end_on_oldest state)))
      → ((m.head.purpose ≡ 2 → ⊥) → is_termination m ≡ true → P (silent (end state)))
      → ((m.head.purpose ≡ 2 → ⊥) → is_termination m ≡ false → P (report_of state (step_back own state m)))
      → P (step own state m)
  unfolding step
  by_step P oldest ended back = go (eqb m.head.purpose 2) refl (is_termination m) refl
    where
      go : (a : Bool) → eqb m.head.purpose 2 ≡ a → (b : Bool) → is_termination m ≡ b
          → P (pick a (silent (end_on_oldest state)) (pick b (silent (end state)) (report_of state (step_back own state m))))
      go true e b f = oldest (eqb-true m.head.purpose 2 e)
      go false e true f = ended (eqb-false m.head.purpose 2 e) f
      go false e false f = back (eqb-false m.head.purpose 2 e) f
