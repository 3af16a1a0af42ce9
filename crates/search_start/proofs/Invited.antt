-- A participant's invitation, as the bytes on its strand: it reads what was written, and it passes.
use mathlib.Core.Path.{◌≡◌, refl, ap, subst, ◌∙◌}
use mathlib.Core.Bool.{Bool, true}
use mathlib.Core.List.{[]}
use Prim.Native.Nat.{ℕ, ◌-◌, ◌<◌}
use native.Mathlib.Omega.{arith}
use Rattle.lists.specs.Pick.{pick}
use Rattle.message.specs.Layout.{message_bytes}
use Rattle.mail.specs.declared.Outgoing.{Outgoing}
use Rattle.mail.specs.Outgoing.{message_to, bytes_to}
use Rattle.participant.specs.declared.Participant.{Participant}
use Rattle.participant.specs.declared.Stage.TheVariants.{Before}
use Rattle.participant.specs.Calls.{read_by, message_question}
use Rattle.exchange_laws.specs.Ends.{TakesPart, PassesDown}
use Rattle.session.specs.Workers.{participant_at}
use Rattle.session_theory.proofs.Search.{Search, IsSearch, size, is_part}
use Rattle.session_theory.proofs.Moves.{begins}
use Rattle.session_theory.proofs.Facts.{part_within, part_named}
use Rattle.search_start.proofs.Start.{started, first_state, first_part, invites, place_part}

-- what passes at process k, whose machine counts it from 1
module _ (n : ℕ) (o : Outgoing) (p : Participant) (k : ℕ) (me : p.me.0 - 1 ≡ k) (down : PassesDown n o p) where
  read_at : read_by n p (message_bytes (message_to o k)) ≡ message_to o k
  read_at = subst (λ (q : ℕ). read_by n p (message_bytes (message_to o q)) ≡ message_to o q) me down.read

  passes_at : message_question n p (message_bytes (message_to o k)) ≡ 0
  passes_at = subst (λ (q : ℕ). message_question n p (message_bytes (message_to o q)) ≡ 0) me down.passes

module _ (g : Search) (is : IsSearch g) (k : ℕ) (there : is_part g k ≡ true) where
  pub within : k < 16
  within = part_within g is k there

  pub at_place : participant_at (started g) k ≡ first_state g k
  at_place = place_part g k within there

  pub takes_part : (purpose : ℕ) → g.purpose ≡ purpose → TakesPart (size g) g.initiator purpose Before (first_state g k)
  takes_part purpose e = record {
    named = part_named g is k there (first_state g k) (first_part g is k there);
    initiated = refl;
    same_purpose = e;
    in_stage = refl;
  }

  module _ (o : Outgoing) (sends : (begins g).outgoing ≡ o) where
    pub carries : bytes_to (begins g).outgoing k ≡ message_bytes (message_to o k)
    carries =
        ap (λ (t : Bool). pick t (message_bytes (message_to (begins g).outgoing k)) []) (invites g k within ∙ there)
        ∙ ap (λ (o : Outgoing). message_bytes (message_to o k)) sends

    module _ (down : PassesDown (size g) o (first_state g k)) where
      pub reads : read_by (size g) (participant_at (started g) k) (bytes_to (begins g).outgoing k) ≡ message_to o k
      reads = rw (carries, at_place) (read_at (size g) o (first_state g k) k (omega arith) down)

      pub passes : message_question (size g) (participant_at (started g) k) (bytes_to (begins g).outgoing k) ≡ 0
      passes = rw (carries, at_place) (passes_at (size g) o (first_state g k) k (omega arith) down)
