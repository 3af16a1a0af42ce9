-- The machine at a place before the invitation.
use mathlib.Core.Path.{◌≡◌, ap, ◌∙◌}
use mathlib.Core.Bool.{true, false}
use mathlib.Core.List.{[]}
use Prim.Native.Nat.{ℕ, ◌+◌, ◌-◌}
use native.Mathlib.Numerals.{add-one}
use Rattle.book.specs.Lent.{lent}
use Rattle.book.specs.declared.Process.{Process}
use Rattle.book.specs.declared.Shape.{Shape}
use Rattle.book.specs.View.{count}
use Rattle.machine.specs.Named.{is_participant}
use Rattle.participant.specs.declared.Participant.{Participant}
use Rattle.participant.specs.Step.{first_of}
use Rattle.participant.specs.Calls.{no_participant}
use Rattle.session.specs.Steps.{place_at_start}

module _ (shape : Shape) (initiator : Process) (purpose k : ℕ) (p : Participant) where
  pub nobody_there : is_participant shape.n (initiator.0 - 1) k ≡ false → p ≡ no_participant
      → p ≡ place_at_start (lent shape [] []) initiator purpose k
  nobody_there h e = rw h e

  pub somebody_there : is_participant shape.n (initiator.0 - 1) k ≡ true
      → p ≡ first_of shape.n (count shape k) (record { 0 = k + 1 }) initiator purpose
      → p ≡ place_at_start (lent shape [] []) initiator purpose k
  somebody_there h e =
      rw h (e ∙ ap (λ (me : ℕ). first_of shape.n (count shape k) (record { 0 = me }) initiator purpose) (add-one k))
