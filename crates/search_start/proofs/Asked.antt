-- A participant whose invitation to a search is on its way: the message brings it its column of the first matrix.
use mathlib.Core.Path.{◌≡◌, refl, sym, ap, subst, ◌∙◌}
use mathlib.Core.Bool.{Bool, true, false}
use mathlib.Core.List.{List}
use Prim.Native.Nat.{ℕ, suc, ◌-◌, ◌≤◌, ◌<◌}
use native.Mathlib.Omega.{arith}
use borrow.Author.Tests.{ne_eqb}
use lib.Dec.{eqb}
use Rattle.book.specs.declared.Count.{Count}
use Rattle.book.specs.declared.Process.{Process}
use Rattle.book.specs.Bounds.{mark}
use Rattle.consistency.specs.Known.{counters}
use Rattle.lists.specs.Pick.{pick}
use Rattle.matrix.specs.Matrix.{row, column, not_known_at, not_known_row}
use Rattle.matrix.specs.Entries.{patch}
use Rattle.matrix.proofs.Rows.{counter_of_row}
use Rattle.message.specs.declared.Message.{Message}
use Rattle.mail.specs.declared.Outgoing.{Outgoing}
use Rattle.mail.specs.Outgoing.{message_to, bytes_to}
use Rattle.machine.specs.Own.{Own}
use Rattle.machine.specs.Flags.{flag, participants}
use Rattle.machine_laws.proofs.Pairs.{pair_sym}
use Rattle.machine_laws.proofs.Rows.{row_at}
use Rattle.participant.specs.declared.Participant.{Participant}
use Rattle.participant.specs.Step.{step}
use Rattle.participant_laws.specs.Accepts.{ends_it}
use Rattle.initiator.specs.declared.Initiator.{Initiator}
use Rattle.initiator.specs.declared.InitiatorStep.{InitiatorStep}
use Rattle.initiator.specs.Begin.{wait, without_wait, begin_search}
use Rattle.initiator_laws.proofs.Begun.{begun, begun_column, search_matrix}
use Rattle.exchange_laws.specs.Ends.{is_search, SameEntries, IsInvited, PassesDown}
use Rattle.exchange_laws.proofs.Heads.{search_in}
use Rattle.exchange_laws.proofs.Receivers.{column_taken}
use Rattle.exchange_laws.proofs.Theorems.{invitation_passes, invitation_taken}
use Rattle.session.specs.Workers.{participant_at}
use Rattle.session_theory.proofs.Search.{Search, IsSearch, size, lead, is_part, own_in}
use Rattle.session_theory.proofs.Invariant.{IsAsked}
use Rattle.session_theory.proofs.Moves.{begins}
use Rattle.session_theory.proofs.Facts.{own_is, lead_in, part_other}
use Rattle.search_start.proofs.Start.{ready, started, first_state, machine_is, outgoing_is}
use Rattle.search_start.proofs.Invited.{within, at_place, takes_part, carries, reads, passes}
use Rattle.search_start.proofs.Searching.{participant_flag, others_some, first_search, search_waits}

-- ---- the invitation

module _ (own : Own) (me : Process) (purpose : ℕ) where
  invites_to_search : eqb purpose 2 ≡ false → (k : ℕ) → ends_it (message_to (begin_search own me purpose).outgoing k) ≡ false
  unfolding begin_search
  invites_to_search e k = rw e

  -- process k takes its column out of it
  brings_at : (p : Participant) (k : ℕ) → p.me.0 - 1 ≡ k → eqb purpose 2 ≡ false → IsInvited own me purpose p
      → SameEntries (patch p.column (message_to (begin_search own me purpose).outgoing k).news) (column (begun own (me.0 - 1)) k)
  brings_at p k here other invited i h =
      let m : ℕ → Message = λ q. message_to (begin_search own me purpose).outgoing q in
      let known : ℕ → List Count = λ q. column (begin_search own me purpose).state.matrix q in
      let taken : counters (step own p (m k)).state.column i ≡ counters (known k) i =
      subst (λ (q : ℕ). counters (step own p (m q)).state.column i ≡ counters (known q) i) here
      (invitation_taken own me purpose p invited own i h) in
      ap (λ (l : List Count). counters l i) (sym (column_taken own p (m k) (invites_to_search other k)))
      ∙ (taken ∙ ap (λ (l : List Count). counters (column l k) i) (search_matrix own me purpose))

-- nothing is known of its row
row_unknown : (own : Own) (me k : ℕ) → k < 16 → (k ≡ me → ⊥) → SameEntries (row (begun own me) k) (not_known_row own.n k)
row_unknown own me k h other p i =
    row_at (begun own me) k p i
    ∙ (begun_column own me p k h i
    ∙ (ap (λ (t : Bool). pick t (own.S own.count p) (not_known_at own.n p k)) (ne_eqb k me other)
    ∙ (ap (λ (t : Bool). pick t mark 0) (pair_sym own.n p k) ∙ sym (counter_of_row (λ q. not_known_at own.n k q) p i))))

-- ---- the initiator waits

module _ (g : Search) (is : IsSearch g) (searches : is_search g.purpose ≡ true) (two : 2 ≤ size g) where
  other : eqb g.purpose 2 ≡ false
  other = (search_in g.purpose searches).1

  abbrev own : Own
  own = own_in g (lead g)

  machine_waits : (started g).machine ≡ wait (ready own g.initiator g.purpose) (participants (size g) (lead g))
  machine_waits =
      machine_is g
      ∙ (ap (λ (s : InitiatorStep). s.state) (first_search g is other)
      ∙ search_waits own g.initiator g.purpose (others_some (size g) (lead g) two))

  pub still_waiting : (started g).machine.ended ≡ false
  unfolding wait
  still_waiting = ap (λ (m : Initiator). m.ended) machine_waits

  pub one_round : (started g).machine.rounds ≡ 1
  unfolding wait without_wait
  one_round = ap (λ (m : Initiator). m.rounds) machine_waits

  matrix_first : (started g).machine.matrix ≡ begun own (lead g)
  unfolding wait without_wait
  matrix_first = ap (λ (m : Initiator). m.matrix) machine_waits

  pub copy_first : (started g).machine.copy ≡ begun own (lead g)
  unfolding wait without_wait
  copy_first = ap (λ (m : Initiator). m.copy) machine_waits

  awaits_all : (k : ℕ) → k < 16 → flag (started g).machine.awaited k ≡ is_part g k
  unfolding wait
  awaits_all k h = ap (λ (m : Initiator). flag m.awaited k) machine_waits ∙ participant_flag (size g) (lead g) k h

  sends : (begins g).outgoing ≡ (begin_search own g.initiator g.purpose).outgoing
  sends = outgoing_is g ∙ ap (λ (s : InitiatorStep). s.outgoing) (first_search g is other)

  module _ (k : ℕ) (there : is_part g k ≡ true) where
    invited : IsInvited own g.initiator g.purpose (first_state g k)
    invited = record {
      own_is = own_is g is (lead g) (lead_in g is);
      searching = searches;
      part = takes_part g is k there g.purpose refl;
      unknown = λ p h. refl;
    }

    down : PassesDown (size g) (begin_search own g.initiator g.purpose).outgoing (first_state g k)
    down = invitation_passes own g.initiator g.purpose (first_state g k) invited

    row_held : SameEntries (row (started g).machine.matrix k) (participant_at (started g) k).row
    row_held =
        let e : suc k - 1 ≡ k = omega arith in
        let unknown : SameEntries (row (begun own (lead g)) k) (not_known_row (size g) (suc k - 1)) =
        rw e (row_unknown own (lead g) k (within g is k there) (part_other g k there)) in
        rw (matrix_first, at_place g is k there) unknown

    pub is_asked : IsAsked g (started g) k (bytes_to (begins g).outgoing k)
    is_asked =
        let o : Outgoing = (begin_search own g.initiator g.purpose).outgoing in
        record {
          told = message_to o k;
          carries = carries g is k there o sends;
          read = reads g is k there o sends down;
          passes = passes g is k there o sends down;
          going = invites_to_search own g.initiator g.purpose other k;
          brings =
              rw (copy_first, at_place g is k there)
              (brings_at own g.initiator g.purpose (first_state g k) k (omega arith) other invited);
          awaited = awaits_all k (within g is k there) ∙ there;
          row_held = row_held;
        }
