-- After a delivery everybody is in place again, whoever was replaced: a participant, or the initiator's machine.
use mathlib.Core.Path.{◌≡◌, refl, sym, ◌∙◌}
use mathlib.Core.Bool.{Bool, true, false, true≢false}
use mathlib.Core.List.{List}
use Prim.Native.Nat.{ℕ, ◌<◌}
use native.Mathlib.Decide.{ℕ_discrete}
use native.Mathlib.Omega.{arith}
use lib.ListN.{length, get_or, set, length-set}
use lib.Seq.{get_or-set_same, get_or-set_other}
use Rattle.mail.specs.declared.Outgoing.{Outgoing}
use Rattle.mail.specs.Outgoing.{goes_to}
use Rattle.participant.specs.declared.Participant.{Participant}
use Rattle.participant.specs.Calls.{no_participant}
use Rattle.initiator.specs.declared.Initiator.{Initiator}
use Rattle.initiator.specs.Fits as initiator
use Rattle.strands.specs.Strands.{length_on, lengths_posted}
use Rattle.session.specs.declared.Session.{Session}
use Rattle.session.specs.Steps.{delivered_on, with_posted}
use Rattle.session_theory.proofs.Search.{Search, lead, is_part, own_in}
use Rattle.session_theory.proofs.Invariant.{Part, Placed}
use Rattle.session_theory.proofs.Moves.{ToParticipants}
use Rattle.session_theory.proofs.Boxes.{lengths_long, lengths_none}

-- the session after a delivery on k's strand, with these machines, and what is sent
abbrev pub after_delivery : Session → ℕ → Initiator → List Participant → Outgoing → Session
after_delivery s k machine participants o =
    with_posted (record { session = delivered_on s k machine participants; outgoing = o })

-- the initiator's machine is one of this search
pub record IsLead (g : Search) (machine : Initiator) : Type 0 where
  pub me : machine.me ≡ g.initiator
  pub purpose : machine.purpose ≡ g.purpose
  pub fitting : initiator.fits (own_in g (lead g)) machine ≡ true

-- and so are the participants'
pub record AreParts (g : Search) (participants : List Participant) : Type 0 where
  pub long : length participants ≡ 16
  pub part : (q : ℕ) → is_part g q ≡ true → Part g q (get_or participants q no_participant)
  pub absent : (q : ℕ) → q < 16 → is_part g q ≡ false → get_or participants q no_participant ≡ no_participant

-- who is no participant is another than one who is
pub not_part : (g : Search) (k q : ℕ) → is_part g k ≡ true → is_part g q ≡ false → q ≡ k → ⊥
not_part g k q there none e = true≢false (sym there ∙ (rw e at none))

module _ (g : Search) (s : Session) (placed : Placed g s) where
  pub leads_before : IsLead g s.machine
  leads_before =
      record { me = placed.machine_me; purpose = placed.machine_purpose; fitting = placed.machine_fits }

  pub follow_before : AreParts g s.participants
  follow_before =
      record {
        long = placed.all_participants;
        part = placed.part;
        absent = λ q h none. (placed.absent q h none).0;
      }

  module _ (k : ℕ) (there : is_part g k ≡ true) where
    -- one participant is another
    pub follow_one : (p : Participant) → k < 16 → Part g k p → AreParts g (set s.participants k p)
    follow_one p h part =
        record {
          long = simp length-set placed.all_participants;
          part = λ q is. elim (ℕ_discrete q k) [
            | yes e ↦ rw (e, get_or-set_same s.participants k p no_participant (omega (arith, placed.all_participants))) part
            | no other ↦ rw (get_or-set_other s.participants k q p no_participant other) (placed.part q is)
          ];
          absent = λ q i none.
              get_or-set_other s.participants k q p no_participant (not_part g k q there none) ∙ (placed.absent q i none).0;
        }

    -- nothing goes to a place that is no participant's, so its length stays 0
    absent_length : (o : Outgoing) → ToParticipants g o → (q : ℕ) → q < 16 → is_part g q ≡ false
        → length_on (lengths_posted o (set s.lengths k 0)) q ≡ 0
    absent_length o to q h none =
        lengths_none o (set s.lengths k 0) q h (unsent (goes_to o q) (λ sent. to q h sent))
        ∙ (get_or-set_other s.lengths k q 0 0 (not_part g k q there none) ∙ (placed.absent q h none).1)
      where
        unsent : (b : Bool) → (b ≡ true → is_part g q ≡ true) → b ≡ false
        unsent true sent = absurd (true≢false (sym (sent refl) ∙ none))
        unsent false sent = refl

    pub placed_again : (machine : Initiator) (participants : List Participant) (o : Outgoing) → IsLead g machine
        → AreParts g participants → ToParticipants g o → Placed g (after_delivery s k machine participants o)
    unfolding with_posted
    placed_again machine participants o leads follow to =
        record {
          processes = placed.processes;
          leader = placed.leader;
          purpose = placed.purpose;
          machine_me = leads.me;
          machine_purpose = leads.purpose;
          machine_fits = leads.fitting;
          all_participants = follow.long;
          all_lengths = lengths_long o (set s.lengths k 0);
          part = follow.part;
          absent = λ q h none. (follow.absent q h none, absent_length o to q h none);
        }
