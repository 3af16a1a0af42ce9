-- Who is where when a session has begun.
use mathlib.Core.Path.{◌≡◌, refl, sym, ap, subst, ◌∙◌}
use mathlib.Core.Bool.{Bool, true, false}
use mathlib.Core.List.{List}
use Prim.Native.Nat.{ℕ, suc, ◌-◌, ◌<◌}
use native.Mathlib.Omega.{arith}
use lib.ListN.{get_or, get_or-replicate}
use lib.Dec.{eqb}
use Rattle.book.specs.declared.Process.{Process}
use Rattle.lists.proofs.Over.{get_d_tab, length_tab}
use Rattle.lists.specs.Pick.{pick}
use Rattle.mail.specs.declared.Outgoing.{Outgoing}
use Rattle.mail.specs.Outgoing.{goes_to, no_lengths}
use Rattle.machine.specs.Own.{Own}
use Rattle.machine.specs.Flags.{someone, participants}
use Rattle.machine_laws.specs.Own.{IsOwn}
use Rattle.participant.specs.declared.Participant.{Participant}
use Rattle.participant.specs.Step.{first}
use Rattle.participant.specs.Calls.{no_participant}
use Rattle.participant_laws.proofs.Theorems.{first_fits}
use Rattle.initiator.specs.declared.Initiator.{Initiator}
use Rattle.initiator.specs.declared.InitiatorStep.{InitiatorStep}
use Rattle.initiator.specs.Begin.{wait, without_wait, begin_search, begin_restart, begin}
use Rattle.initiator_laws.proofs.Begun as first_matrix
use Rattle.initiator_laws.proofs.Theorems.{begin_fits}
use Rattle.strands.specs.Strands.{length_on, lengths_posted}
use Rattle.session.specs.declared.Session.{Session}
use Rattle.session.specs.Workers.{participant_at}
use Rattle.session.specs.Steps.{place_at_start, begun, with_posted}
use Rattle.session_theory.proofs.Search.{Search, IsSearch, lead, is_part, own_in}
use Rattle.session_theory.proofs.Invariant.{Part, Placed}
use Rattle.session_theory.proofs.Moves.{begins, ToParticipants}
use Rattle.session_theory.proofs.Boxes.{lengths_long, lengths_none}
use Rattle.session_theory.proofs.Facts.{own_is, lead_in, part_own, part_within}

-- ---- the initiator's machine, whatever the purpose

module _ (own : Own) (me : Process) (purpose : ℕ) where
  abbrev pub others : List Bool
  others = participants own.n (me.0 - 1)

  -- a searching initiator before it waits
  abbrev pub ready : Initiator
  ready = without_wait own.n me purpose own.count (first_matrix.begun own (me.0 - 1))

  -- by the two ways to begin
  by_begin : (P : InitiatorStep → Type 0) → P (begin_restart own.n me purpose) → P (begin_search own me purpose) → P (begin own me purpose)
  unfolding begin
  by_begin P two other = go (eqb purpose 2) refl
    where
      go : (t : Bool) → eqb purpose 2 ≡ t → P (pick (eqb purpose 2) (begin_restart own.n me purpose) (begin_search own me purpose))
      go true e = rw e two
      go false e = rw e other

  -- by whether there is somebody to wait for
  pub by_search : (P : Initiator → Type 0) → P (wait ready others) → P ready → P (begin_search own me purpose).state
  unfolding begin_search
  by_search P waits alone = go (someone others) refl
    where
      go : (t : Bool) → someone others ≡ t → P (pick (someone others) (wait ready others) ready)
      go true e = rw e waits
      go false e = rw e alone

  begin_me : (begin own me purpose).state.me ≡ me
  unfolding begin_restart wait without_wait
  begin_me = by_begin (λ s. s.state.me ≡ me) refl (by_search (λ m. m.me ≡ me) refl refl)

  begin_purpose : (begin own me purpose).state.purpose ≡ purpose
  unfolding begin_restart wait without_wait
  begin_purpose = by_begin (λ s. s.state.purpose ≡ purpose) refl (by_search (λ m. m.purpose ≡ purpose) refl refl)

  begin_to : (begin own me purpose).outgoing.to ≡ others
  unfolding begin_restart begin_search
  begin_to = by_begin (λ s. s.outgoing.to ≡ others) refl refl

-- nobody's strand holds anything but what was put on it
posted_nothing : (o : Outgoing) (k : ℕ) → k < 16 → goes_to o k ≡ false → length_on (lengths_posted o no_lengths) k ≡ 0
posted_nothing o k h e = lengths_none o no_lengths k h e ∙ get_or-replicate 16 k 0 0 h

-- ---- the session

-- the session when its invitations are on the strands
abbrev pub started : Search → Session
started g = with_posted (begins g)

-- what the initiator's start gives
abbrev pub first_step : Search → InitiatorStep
first_step g = begin (own_in g (lead g)) g.initiator g.purpose

-- a participant before its invitation
abbrev pub first_state : Search → ℕ → Participant
first_state g k = first (own_in g k) (record { 0 = suc k }) g.initiator g.purpose

module _ (g : Search) where
  pub machine_is : (started g).machine ≡ (first_step g).state
  unfolding with_posted begun
  machine_is = refl

  pub outgoing_is : (begins g).outgoing ≡ (first_step g).outgoing
  unfolding begun
  outgoing_is = refl

  pub leads : (started g).initiator ≡ g.initiator
  unfolding with_posted begun
  leads = refl

  pub none_delivered : (started g).delivered ≡ 0
  unfolding with_posted begun
  none_delivered = refl

  -- the invitations go to all participants and to nobody else
  pub invites : (k : ℕ) → k < 16 → goes_to (begins g).outgoing k ≡ is_part g k
  unfolding begun participants
  invites k h =
      ap (λ (l : List Bool). get_or l k false) (begin_to (own_in g (lead g)) g.initiator g.purpose)
      ∙ get_d_tab 16 (λ p. is_part g p) k false h

  pub to_participants : ToParticipants g (begins g).outgoing
  to_participants k h e = sym (invites k h) ∙ e

  -- ---- the other places

  place : (k : ℕ) → k < 16 → participant_at (started g) k ≡ place_at_start g.tables g.initiator g.purpose k
  unfolding with_posted begun
  place k h = get_d_tab 16 (place_at_start g.tables g.initiator g.purpose) k no_participant h

  place_absent : (k : ℕ) → k < 16 → is_part g k ≡ false → participant_at (started g) k ≡ no_participant
  place_absent k h e = place k h ∙ ap (λ (t : Bool). pick t (first_state g k) no_participant) e

  pub place_part : (k : ℕ) → k < 16 → is_part g k ≡ true → participant_at (started g) k ≡ first_state g k
  place_part k h e = place k h ∙ ap (λ (t : Bool). pick t (first_state g k) no_participant) e

  nothing_there : (k : ℕ) → k < 16 → is_part g k ≡ false → length_on (started g).lengths k ≡ 0
  unfolding with_posted begun
  nothing_there k h e = posted_nothing (begins g).outgoing k h (invites k h ∙ e)

module _ (g : Search) (is : IsSearch g) where
  pub first_part : (k : ℕ) → is_part g k ≡ true → Part g k (first_state g k)
  first_part k there =
      let e : suc k - 1 ≡ k = omega arith in
      let own : IsOwn (own_in g k) (suc k - 1) = rw e (part_own g is k there) in
      record {
        me = refl;
        leader = refl;
        purpose = refl;
        fitting = first_fits (own_in g k) (record { 0 = suc k }) g.initiator g.purpose own;
      }

  part_at : (k : ℕ) → is_part g k ≡ true → Part g k (participant_at (started g) k)
  part_at k there =
      subst (λ (p : Participant). Part g k p) (sym (place_part g k (part_within g is k there) there)) (first_part k there)

  pub placed : Placed g (started g)
  unfolding with_posted begun
  placed = record {
    processes = refl;
    leader = refl;
    purpose = refl;
    machine_me = begin_me (own_in g (lead g)) g.initiator g.purpose;
    machine_purpose = begin_purpose (own_in g (lead g)) g.initiator g.purpose;
    machine_fits = begin_fits (own_in g (lead g)) g.initiator g.purpose (own_is g is (lead g) (lead_in g is));
    all_participants = length_tab 16 (place_at_start g.tables g.initiator g.purpose);
    all_lengths = lengths_long (begins g).outgoing no_lengths;
    part = part_at;
    absent = λ k h e. (place_absent g k h e, nothing_there g k h e);
  }
