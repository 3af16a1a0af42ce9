-- A participant takes a step that goes on: what it does, and what holds of everybody then.
use mathlib.Core.Path.{◌≡◌, sym, ap, subst, ◌∙◌}
use mathlib.Core.Bool.{true, false}
use mathlib.Core.List.{List}
use Prim.Native.Nat.{ℕ, ◌+◌, ◌-◌, ◌≤◌, ◌<◌}
use native.Mathlib.Decide.{ℕ_discrete}
use native.Mathlib.Omega.{arith}
use borrow.Author.Tests.{eq-eqb}
use Rattle.book.specs.declared.Process.{Process}
use Rattle.consistency.specs.Known.{counters}
use Rattle.matrix.specs.Matrix.{entry, column}
use Rattle.matrix.specs.Entries.{patch}
use Rattle.message.specs.declared.Message.{Message}
use Rattle.mail.specs.declared.Outgoing.{Outgoing}
use Rattle.mail.specs.Outgoing.{goes_to}
use Rattle.machine.specs.Own.{newest_permitted}
use Rattle.machine_laws.proofs.Rows.{column_at}
use Rattle.machine_laws.proofs.Theorems.{stays_above_line}
use Rattle.participant.specs.declared.Participant.{Participant}
use Rattle.participant.specs.declared.ParticipantStep.{ParticipantStep}
use Rattle.participant.specs.Step.{step_back, report_of, step}
use Rattle.participant_laws.specs.Accepts.{Accepts, ends_it}
use Rattle.participant_laws.proofs.Accepted.{candidate_there, newest_there, candidate_falls}
use Rattle.participant_laws.proofs.Report.{step_going}
use Rattle.participant_laws.proofs.Theorems.{report_is_diff}
use Rattle.initiator.specs.declared.Initiator.{Initiator}
use Rattle.exchange_laws.specs.Ends.{SameEntries}
use Rattle.exchange_laws.proofs.Receivers.{column_taken}
use Rattle.session.specs.declared.Session.{Session}
use Rattle.session.specs.Workers.{participant_at, stands_on}
use Rattle.session_theory.proofs.Search.{Search, IsSearch, size, lead, is_part, own_in, line_in, sent_in, Between, height}
use Rattle.session_theory.proofs.Facts.{few, lead_in, part_in, stands_part}
use Rattle.session_theory.proofs.Invariant.{Part, Phase, Waits}
use Rattle.search_turns.proofs.Moved.{Moved, stands_other, stands_here}
use Rattle.search_turns.proofs.Standing.{stands_in, line_some, sent_less}
use Rattle.search_turns.proofs.Steps.{part_after}

-- ---- the step

-- what a step that goes on does to the candidate and the column, and what it sends
pub record Reports (g : Search) (k : ℕ) (p : Participant) (m : Message) (p' : Participant) (o : Outgoing) : Type 0 where
  pub part : Part g k p'
  pub falls : p'.candidate.0 ≤ p.candidate.0
  pub some : 1 ≤ p'.candidate.0
  pub among : p.candidate.0 ≤ (own_in g k).count
  pub on_newest : p'.candidate.0 ≡ newest_permitted (own_in g k) (patch p.column m.news)
  pub taken : p'.column ≡ patch p.column m.news
  pub sent : goes_to o (lead g) ≡ true

module _ (g : Search) (is : IsSearch g) (k : ℕ) (there : is_part g k ≡ true) (p : Participant) (part : Part g k p) (m : Message)
    (accepted : Accepts (own_in g k) p m) (going : ends_it m ≡ false) where
  pub reports : Reports g k p m (step (own_in g k) p m).state (step (own_in g k) p m).outgoing
  unfolding report_of step_back
  reports =
      record {
        part = part_after g is k there p part m accepted;
        falls = rw candidate (candidate_falls (own_in g k) p m accepted);
        some = rw candidate (newest_there (own_in g k) p m accepted).0;
        among = (candidate_there (own_in g k) p m accepted).1;
        on_newest = candidate;
        taken = column_taken (own_in g k) p m going;
        sent = goes;
      }
    where
      candidate : (step (own_in g k) p m).state.candidate.0 ≡ newest_permitted (own_in g k) (patch p.column m.news)
      candidate = ap (λ (s : ParticipantStep). s.state.candidate.0) (step_going (own_in g k) p m going)

      to : p.initiator.0 - 1 ≡ lead g
      to = ap (λ (q : Process). q.0 - 1) part.leader

      goes : goes_to (step (own_in g k) p m).outgoing (lead g) ≡ true
      goes =
          (report_is_diff (own_in g k) p m accepted going).0 (lead g) (omega (arith, lead_in g is, few g is))
          ∙ eq-eqb (lead g) (p.initiator.0 - 1) (sym to)

-- ---- what holds after it

-- the invariant of a search, when participant k has taken a step that goes on; `s'` and `box'` are what it left
module _ (g : Search) (is : IsSearch g) (s : Session) (box : ℕ → List ℕ) (phase : ℕ → Phase) (ahead k : ℕ)
    (waits : Waits g s box phase ahead) (there : is_part g k ≡ true) (m : Message) (p' : Participant) (o : Outgoing)
    (step_is : Reports g k (participant_at s k) m p' o)
    (brings : SameEntries (patch (participant_at s k).column m.news) (column s.machine.copy k)) (s' : Session)
    (move : Moved s k p' s') where
  here_before : stands_on s k ≡ (participant_at s k).candidate.0
  here_before = stands_part g s waits.placed.leader k there

  here_now : stands_on s' k ≡ p'.candidate.0
  here_now = stands_here s k p' s' move g waits.placed.leader there

  -- what is known to participant k is at least what the line has sent to it
  enough : (q : ℕ) → q < size g → sent_in g q (line_in g q) k ≤ counters (patch (participant_at s k).column m.news) q
  enough q h =
      let within : q < 16 = omega (arith, few g is) in
      let stands = stands_in g s waits.placed q h in
      let less =
      sent_less g is q (stands_on s q) (line_in g q) k h (part_in g k there) (line_some g is q h) (waits.above q h) stands.1 in
      let held : counters (patch (participant_at s k).column m.news) q ≡ entry s.machine.copy q k =
      brings q within ∙ column_at s.machine.copy q k within in
      omega (arith, held, less, waits.copied q k h (part_in g k there))

  here_above : line_in g k ≤ stands_on s' k
  here_above =
      rw (here_now, step_is.on_newest)
      (stays_above_line g.tables k (patch (participant_at s k).column m.news) is.accepted
      (part_in g k there) enough)

  pub above_again : (j : ℕ) → j < size g → line_in g j ≤ stands_on s' j
  above_again j h = elim (ℕ_discrete j k) [
    | yes e ↦ subst (λ (i : ℕ). line_in g i ≤ stands_on s' i) (sym e) here_above
    | no other ↦ rw (stands_other s k p' s' move j other) (waits.above j h)
  ]

  stands_lower : (j : ℕ) → stands_on s' j ≤ stands_on s j
  stands_lower j = elim (ℕ_discrete j k) [
    | yes e ↦ subst (λ (i : ℕ). stands_on s' i ≤ stands_on s i) (sym e) (rw (here_now, here_before) step_is.falls)
    | no other ↦ rw (stands_other s k p' s' move j other) (omega arith)
  ]

  pub copied_again : (j p : ℕ) → j < size g → p < size g → sent_in g j (stands_on s' j) p ≤ entry s'.machine.copy j p
  copied_again j p h i =
      let less =
      sent_less g is j (stands_on s j) (stands_on s' j) p h i (omega (arith, above_again j h, line_some g is j h)) (stands_lower j)
      (stands_in g s waits.placed j h).1 in
      let copy : entry s'.machine.copy j p ≡ entry s.machine.copy j p =
      ap (λ (i : Initiator). entry i.copy j p) move.machine in
      omega (arith, less, copy, waits.copied j p h i)

  pub falls_again :
      (c : ℕ → ℕ) → Between g c (stands_on s') → (j p : ℕ) → j < size g → p < size g
      → (sent_in g j (c j) p ≡ entry s'.machine.copy j p → ⊥) → height g c + 1 ≤ ahead
  falls_again c between j p h i differs =
      waits.falls c (λ q l. ((between q l).0, omega (arith, (between q l).1, stands_lower q))) j p h i
      (λ e. differs (rw move.machine e))
