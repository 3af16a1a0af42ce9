-- Who has ended and who gets a message, by the invariant.
use mathlib.Core.Path.{◌≡◌, refl, sym, ap, subst, ◌∙◌}
use mathlib.Core.Bool.{Bool, true, false, not, true≢false}
use mathlib.Core.List.{List, []}
use mathlib.Core.Logic.{⊎_elim}
use Prim.Native.Nat.{ℕ, ◌-◌, ◌≤◌, ◌<◌}
use native.Mathlib.Decide.{dec_lt}
use native.Mathlib.Omega.{arith}
use borrow.Author.Tests.{lt-ltb, eq-eqb, ne_eqb, eqb-false}
use lib.ListN.{length, get_or-eq_default}
use lib.Dec.{eqb}
use Rattle.message.specs.declared.Message.{Message}
use Rattle.machine.specs.Own.{Own}
use Rattle.machine.specs.Sends.{is_termination}
use Rattle.machine.specs.Named.{is_participant}
use Rattle.machine.specs.Flags.{flag, someone}
use Rattle.lists.proofs.Tests.{second_of_or, or_none}
use Rattle.machine_laws.proofs.Flags.{some_flagged}
use Rattle.participant.specs.declared.Participant.{Participant}
use Rattle.participant.specs.Step.{step_back, report_of, step}
use Rattle.participant.specs.Calls.{message_question}
use Rattle.participant_laws.specs.Accepts.{ends_it}
use Rattle.participant_laws.proofs.Steps.{by_step}
use Rattle.initiator_laws.proofs.Fit.{Fit, fits_in}
use Rattle.strands.specs.Strands.{length_on}
use Rattle.session.specs.declared.Session.{Session}
use Rattle.session.specs.Workers.{participant_at, is_ended, has_ended, waits_on}
use Rattle.session_fit.proofs.Read.{read_down}
use Rattle.session_theory.proofs.Search.{Search, IsSearch, size, lead, is_part, own_in}
use Rattle.session_theory.proofs.Invariant.{Placed, Laid, Phase, quiet, reported, asked, InPhase, Waits, Closing, IsEnding, IsOver, Ends}
use Rattle.session_theory.proofs.Facts.{few, worker, part_named, ended_lead, ended_part, machine_n}

-- ---- a participant's stage

-- who reports has not ended
reports_going : (own : Own) (p : Participant) (m : Message) → ends_it m ≡ false → is_ended (step own p m).state.stage ≡ false
unfolding report_of step_back
reports_going own p m h =
    let no = or_none (eqb m.head.purpose 2) (is_termination m) h in
    by_step own p m (λ next. is_ended next.state.stage ≡ false)
    (λ e. absurd (eqb-false m.head.purpose 2 no.0 e))
    (λ other e. absurd (true≢false (sym e ∙ no.1)))
    (λ other e. refl)

-- ---- the strands

module _ (g : Search) (s : Session) (placed : Placed g s) where
  -- nothing waits but on participants' strands
  pub none_waits : (k : ℕ) → is_part g k ≡ false → waits_on s k ≡ false
  none_waits k out = elim (dec_lt k 16) [
    | yes h ↦ ap (λ (l : ℕ). not (eqb l 0)) (placed.absent k h out).1
    | no h ↦
        ap (λ (l : ℕ). not (eqb l 0))
        (get_or-eq_default s.lengths 0 {n = k} (omega (arith, placed.all_lengths)))
  ]

module _ (g : Search) (s : Session) (strands : List ℕ) (box : ℕ → List ℕ) (laid : Laid g s strands box) (k : ℕ) (there : is_part g k ≡ true) where
  pub box_waits : 1 ≤ length (box k) → waits_on s k ≡ true
  box_waits some = ap not (ne_eqb (length_on s.lengths k) 0 (λ e. omega (arith, (laid k there).long, some, e)))

  pub box_empty : box k ≡ [] → waits_on s k ≡ false
  box_empty none =
      let long : length_on s.lengths k ≡ 0 = (laid k there).long ∙ ap length none in
      ap (λ (l : ℕ). not (eqb l 0)) long

-- who awaits a message has not ended
module _ (g : Search) (is : IsSearch g) (s : Session) (placed : Placed g s) (k : ℕ) (there : is_part g k ≡ true) where
  passes_going : (b : List ℕ) → message_question (size g) (participant_at s k) b ≡ 0 → is_ended (participant_at s k).stage ≡ false
  passes_going b h =
      let p : Participant = participant_at s k in
      (read_down (size g) p b (few g is) (part_named g is k there p (placed.part k there)) h).going

-- ---- while the search goes on

module _
    (g : Search)
    (is : IsSearch g)
    (s : Session)
    (box : ℕ → List ℕ)
    (phase : ℕ → Phase)
    (ahead : ℕ)
    (w : Waits g s box phase ahead)
  where
    phase_going : (k : ℕ) → is_part g k ≡ true → (f : Phase) → InPhase g s k (box k) f → is_ended (participant_at s k).stage ≡ false
    phase_going k there quiet i = ap is_ended i.searching
    phase_going k there reported i =
        ap (λ (p : Participant). is_ended p.stage) i.after ∙ reports_going (own_in g k) i.sender i.told i.going
    phase_going k there asked i = passes_going g is s w.placed k there (box k) i.passes

    -- nobody has ended,
    pub none_ended : (j : ℕ) → j < size g → has_ended s j ≡ false
    none_ended j h =
        ⊎_elim
        (λ (e : j ≡ lead g). rw e (ended_lead g s w.placed.leader ∙ w.waiting))
        (λ (there : is_part g j ≡ true).
        ended_part g s w.placed.leader j there ∙ phase_going j there (phase j) (w.in_phase j there))
        (worker g j h)

    -- and somebody's message is on its way
    pub somebody : (k : ℕ) × (is_part g k ≡ true) × (phase k ≡ quiet → ⊥)
    somebody =
        let fit : Fit (own_in g (lead g)) s.machine = fits_in (own_in g (lead g)) s.machine w.placed.machine_fits in
        let awaited : List Bool = s.machine.awaited in
        let some : someone awaited ≡ true = second_of_or s.machine.ended (someone awaited) fit.waits w.waiting in
        let found = some_flagged awaited some in
        let k : ℕ = found.0 in
        let there : is_part g k ≡ true = part k (fit.only k found.1 found.2) in
        (k, there, λ q. not_quiet k there found.2 q)
      where
        part : (k : ℕ) → is_participant s.machine.n (s.machine.me.0 - 1) k ≡ true → is_part g k ≡ true
        part k h = rw (machine_n g s w.placed, w.placed.machine_me) at h

        not_quiet : (k : ℕ) → is_part g k ≡ true → flag s.machine.awaited k ≡ true → phase k ≡ quiet → ⊥
        not_quiet k there a q =
            true≢false (sym a ∙ (subst (λ (f : Phase). InPhase g s k (box k) f) q (w.in_phase k there)).awaited)

-- ---- once the initiator has ended

module _ (g : Search) (is : IsSearch g) (s : Session) (box : ℕ → List ℕ) (open' : ℕ → Bool) (e : Ends g s box open') where
  pub initiator_ended : has_ended s (lead g) ≡ true
  initiator_ended = ended_lead g s e.placed.leader ∙ e.ended

  pub open_going : (k : ℕ) → is_part g k ≡ true → open' k ≡ true → has_ended s k ≡ false
  open_going k there o =
      let ending : IsEnding g s k (box k) = subst (λ (v : Bool). Closing g s k (box k) v) o (e.closing k there) in
      ended_part g s e.placed.leader k there ∙ passes_going g is s e.placed k there (box k) ending.passes

  -- who has ended is not still to end
  pub ended_closed : (j : ℕ) → j < size g → has_ended s j ≡ true → open' j ≡ false
  ended_closed j small ended =
      ⊎_elim
      (λ (l : j ≡ lead g). e.rest j (omega (arith, few g is)) (rw (lt-ltb j (size g) small, eq-eqb j (lead g) l)))
      (λ (there : is_part g j ≡ true). at there (open' j) refl)
      (worker g j small)
    where
      at : is_part g j ≡ true → (v : Bool) → open' j ≡ v → open' j ≡ false
      at there true o = absurd (true≢false (sym ended ∙ open_going j there o))
      at there false o = o

  over_at : (k : ℕ) → is_part g k ≡ true → open' k ≡ false → IsOver g s k (box k)
  over_at k there o = subst (λ (v : Bool). Closing g s k (box k) v) o (e.closing k there)

  pub closed_ended : (k : ℕ) → is_part g k ≡ true → open' k ≡ false → has_ended s k ≡ true
  closed_ended k there o = ended_part g s e.placed.leader k there ∙ ap is_ended (over_at k there o).ended

  pub closed_empty : (k : ℕ) → is_part g k ≡ true → open' k ≡ false → box k ≡ []
  closed_empty k there o = (over_at k there o).empty
