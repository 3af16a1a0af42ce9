-- A participant of the search that reads a message which passes accepts it; it stays who it is.
use mathlib.Core.Path.{◌≡◌, refl, sym, subst, ◌∙◌}
use mathlib.Core.Bool.{true, true≢false}
use mathlib.Core.List.{List}
use Prim.Native.Nat.{ℕ}
use native.Mathlib.Omega.{arith}
use borrow.Author.Tests.{ne_eqb}
use lib.ListN.{set}
use Rattle.matrix.specs.Entries.{all_lower}
use Rattle.message.specs.declared.Message.{Message}
use Rattle.message.specs.Formed.{message_formed}
use Rattle.message_laws.specs.Formed.{IsFormed}
use Rattle.message_laws.proofs.Theorems.{read_is_formed}
use Rattle.mail.specs.declared.Outgoing.{Outgoing}
use Rattle.machine.specs.Own.{Own}
use Rattle.machine_laws.specs.Own.{IsOwn}
use Rattle.machine_laws.proofs.Calls.{three_yes}
use Rattle.machine_laws.proofs.Messages.{end_of_reader}
use Rattle.participant.specs.declared.Participant.{Participant}
use Rattle.participant.specs.declared.ParticipantStep.{ParticipantStep}
use Rattle.participant.specs.declared.Stage.TheVariants.{Ended}
use Rattle.participant.specs.Step.{awaits, end_on_oldest, end, step_back, report_of, step}
use Rattle.participant.specs.Calls.{read_by, message_question}
use Rattle.participant_laws.specs.Accepts.{Accepts, ends_it}
use Rattle.participant_laws.proofs.Accepted.{both_named, same_purpose}
use Rattle.participant_laws.proofs.Steps.{by_step}
use Rattle.participant_laws.proofs.Theorems.{step_fits}
use Rattle.session.specs.declared.Session.{Session}
use Rattle.session.specs.Workers.{initiator_of, participant_at}
use Rattle.session.specs.Steps.{on_strand}
use Rattle.session_theory.proofs.Search.{Search, IsSearch, size, is_part, own_in}
use Rattle.session_theory.proofs.Facts.{few, part_within, part_own, part_me, part_named}
use Rattle.session_theory.proofs.Invariant.{Part, Placed}
use Rattle.session_theory.proofs.Moves.{ToParticipants}
use Rattle.session_theory.proofs.Placing.{after_delivery, leads_before, follow_one, placed_again}
use Rattle.search_turns.proofs.Moved.{Moved, moved}

-- ---- what is accepted

module _ (g : Search) (is : IsSearch g) (k : ℕ) (there : is_part g k ≡ true) (p : Participant) (part : Part g k p) where
  pub accepts : (b : List ℕ) → message_question (size g) p b ≡ 0 → Accepts (own_in g k) p (read_by (size g) p b)
  accepts b passes =
      let n : ℕ = size g in
      let me : ℕ = p.me.0 in
      let leader : ℕ = p.initiator.0 in
      let m : Message = read_by n p b in
      let asked =
      three_yes 13 14 15 (message_formed n me leader b) (awaits p m) (all_lower m.news p.column) passes in
      let named = part_named g is k there p part in
      record {
        own_is = subst (IsOwn (own_in g k)) (sym (part_me g is k there p part)) (part_own g is k there);
        named = named;
        purpose = rw part.purpose is.purposed;
        fitting = part.fitting;
        formed =
            subst (λ (end : ℕ). IsFormed n end m) (end_of_reader me leader m.head.sender.0 (both_named n me leader named).others)
            (read_is_formed n me leader b (few g is) asked.0);
        awaited = asked.1;
        lower = asked.2;
      }

  module _ (m : Message) (accepted : Accepts (own_in g k) p m) where
    -- the message has the search's purpose
    pub told_purpose : m.head.purpose ≡ g.purpose
    told_purpose = same_purpose (own_in g k) p m accepted ∙ part.purpose

    -- the participant stays who it is
    pub part_after : Part g k (step (own_in g k) p m).state
    unfolding end_on_oldest end step_back report_of
    part_after =
        record {
          me = names.0 ∙ part.me;
          leader = names.1 ∙ part.leader;
          purpose = names.2 ∙ part.purpose;
          fitting = step_fits (own_in g k) p m accepted;
        }
      where
        names : ((step (own_in g k) p m).state.me ≡ p.me)
            × ((step (own_in g k) p m).state.initiator ≡ p.initiator)
            × ((step (own_in g k) p m).state.purpose ≡ p.purpose)
        names =
            by_step (own_in g k) p m
            (λ (s : ParticipantStep). (s.state.me ≡ p.me) × (s.state.initiator ≡ p.initiator) × (s.state.purpose ≡ p.purpose))
            (λ e. (refl, refl, refl)) (λ other ending. (refl, refl, refl)) (λ other going. (refl, refl, refl))

-- ---- a step that ends the search

module _ (own : Own) (p : Participant) (m : Message) (ends : ends_it m ≡ true) where
  pub step_ended : (step own p m).state.stage ≡ Ended
  unfolding end_on_oldest end
  step_ended =
      by_step own p m (λ (s : ParticipantStep). s.state.stage ≡ Ended) (λ e. refl) (λ other ending. refl)
      (λ other going. absurd (true≢false (sym ends ∙ (rw (ne_eqb m.head.purpose 2 other) going))))

  -- it stays on its candidate,
  pub step_stands : (m.head.purpose ≡ 2 → ⊥) → (step own p m).state.candidate.0 ≡ p.candidate.0
  unfolding end
  step_stands searches =
      by_step own p m (λ (s : ParticipantStep). s.state.candidate.0 ≡ p.candidate.0) (λ e. absurd (searches e)) (λ other ending. refl)
      (λ other going. absurd (true≢false (sym ends ∙ (rw (ne_eqb m.head.purpose 2 other) going))))

  -- but with purpose 2 it is on the oldest
  pub step_oldest : m.head.purpose ≡ 2 → (step own p m).state.candidate.0 ≡ 1
  unfolding end_on_oldest
  step_oldest two =
      by_step own p m (λ (s : ParticipantStep). s.state.candidate.0 ≡ 1) (λ e. refl) (λ other ending. absurd (other two))
      (λ other going. absurd (other two))

-- ---- a message is delivered to participant k

abbrev pub read_in : Search → Session → ℕ → List ℕ → Message
read_in g s k b = read_by (size g) (participant_at s k) b

abbrev pub taken : Search → Session → ℕ → List ℕ → ParticipantStep
taken g s k b = step (own_in g k) (participant_at s k) (read_in g s k b)

-- what it puts on its strand
abbrev pub sends : Search → Session → ℕ → List ℕ → Outgoing
sends g s k b = on_strand k (initiator_of s) (taken g s k b).outgoing

abbrev pub left : Search → Session → ℕ → List ℕ → Session
left g s k b = after_delivery s k s.machine (set s.participants k (taken g s k b).state) (sends g s k b)

module _ (g : Search) (is : IsSearch g) (s : Session) (placed : Placed g s) (k : ℕ) (there : is_part g k ≡ true) (b : List ℕ)
    (passes : message_question (size g) (participant_at s k) b ≡ 0) where
  pub delivery_accepted : Accepts (own_in g k) (participant_at s k) (read_in g s k b)
  delivery_accepted = accepts g is k there (participant_at s k) (placed.part k there) b passes

  pub delivery_moved : Moved s k (taken g s k b).state (left g s k b)
  delivery_moved =
      moved s k (taken g s k b).state (sends g s k b) (omega (arith, placed.all_participants, part_within g is k there))

  pub delivery_placed : ToParticipants g (sends g s k b) → Placed g (left g s k b)
  delivery_placed to =
      placed_again g s placed k there s.machine (set s.participants k (taken g s k b).state) (sends g s k b)
      (leads_before g s placed)
      (follow_one g s placed k there (taken g s k b).state (part_within g is k there)
      (part_after g is k there (participant_at s k) (placed.part k there) (read_in g s k b) delivery_accepted)) to
