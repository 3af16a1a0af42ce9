-- A participant is replaced, and nothing else of the machines.
use mathlib.Core.Path.{◌≡◌, refl, ◌∙◌}
use mathlib.Core.Bool.{true}
use Prim.Native.Nat.{ℕ, ◌+◌, ◌<◌}
use lib.ListN.{length, set}
use lib.Seq.{get_or-set_same, get_or-set_other}
use Rattle.mail.specs.declared.Outgoing.{Outgoing}
use Rattle.participant.specs.declared.Participant.{Participant}
use Rattle.participant.specs.Calls.{no_participant}
use Rattle.session.specs.declared.Session.{Session}
use Rattle.session.specs.Workers.{participant_at, stands_on}
use Rattle.session.specs.Steps.{with_posted}
use Rattle.session_theory.proofs.Search.{Search, is_part}
use Rattle.session_theory.proofs.Facts.{stands_part}
use Rattle.session_theory.proofs.Placing.{after_delivery}

pub record Moved (s : Session) (k : ℕ) (p : Participant) (s' : Session) : Type 0 where
  pub leader : s'.initiator ≡ s.initiator
  pub machine : s'.machine ≡ s.machine
  pub delivered : s'.delivered ≡ s.delivered + 1
  pub here : participant_at s' k ≡ p
  pub others : (q : ℕ) → (q ≡ k → ⊥) → participant_at s' q ≡ participant_at s q

pub moved : (s : Session) (k : ℕ) (p : Participant) (o : Outgoing) → k < length s.participants
    → Moved s k p (after_delivery s k s.machine (set s.participants k p) o)
unfolding with_posted
moved s k p o h =
    record {
      leader = refl;
      machine = refl;
      delivered = refl;
      here = get_or-set_same s.participants k p no_participant h;
      others = λ q other. get_or-set_other s.participants k q p no_participant other;
    }

module _ (s : Session) (k : ℕ) (p : Participant) (s' : Session) (move : Moved s k p s') where
  pub stands_other : (j : ℕ) → (j ≡ k → ⊥) → stands_on s' j ≡ stands_on s j
  stands_other j other = rw (move.leader, move.machine, move.others j other)

  pub stands_here : (g : Search) → s.initiator ≡ g.initiator → is_part g k ≡ true → stands_on s' k ≡ p.candidate.0
  stands_here g leads there = stands_part g s' (move.leader ∙ leads) k there ∙ rw move.here
