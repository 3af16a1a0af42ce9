-- Once nobody is awaited any more, all reports are in: what `AllIn` says holds of the initiator that polls or ends.
use mathlib.Core.Path.{◌≡◌, sym, ap, subst, ◌∙◌}
use mathlib.Core.Bool.{Bool, true, false, not, ◌&&◌, true≢false, and-true}
use mathlib.Core.List.{List}
use Prim.Native.Nat.{ℕ, ◌-◌, ◌≤◌, ◌<◌}
use native.Mathlib.Decide.{ℕ_discrete}
use native.Mathlib.Omega.{arith}
use borrow.Author.Tests.{ne_eqb}
use lib.Dec.{eqb}
use Rattle.book.specs.declared.Process.{Process}
use Rattle.lists.specs.Over.{sum_to}
use Rattle.lists.proofs.Over.{sum_at}
use Rattle.matrix.specs.Matrix.{entry, row, column}
use Rattle.matrix.proofs.Theorems.{other_rows}
use Rattle.message.specs.declared.Message.{Message}
use Rattle.machine.specs.Own.{Own, sent_row, newest_permitted}
use Rattle.machine.specs.Named.{tally_limit}
use Rattle.machine.specs.Flags.{flag, someone}
use Rattle.machine_laws.proofs.Flags.{none_flagged}
use Rattle.participant.specs.declared.Stage.TheVariants.{Searching}
use Rattle.initiator.specs.declared.Initiator.{Initiator}
use Rattle.initiator.specs.Fits.{kept_matrix, fits}
use Rattle.initiator.specs.Step.{take_report, step_back, step}
use Rattle.initiator_laws.proofs.Entries.{Zeros}
use Rattle.initiator_laws.proofs.Fit as fitting
use Rattle.initiator_laws.proofs.Reported as before
use Rattle.initiator_laws.proofs.Theorems.{step_fits, never_raised}
use Rattle.exchange_laws.specs.Ends.{SameEntries}
use Rattle.session.specs.declared.Session.{Session}
use Rattle.session.specs.Workers.{participant_at}
use Rattle.session_theory.proofs.Search.{Search, IsSearch, lead, is_part, own_in}
use Rattle.session_theory.proofs.Invariant.{Placed, Phase, quiet, reported, asked, weight, InPhase, IsQuiet, IsReported, Waits}
use Rattle.session_theory.proofs.Facts.{part_other, part_within, part_me, machine_n}
use Rattle.search_rounds.proofs.Arrives.{Arrived}
use Rattle.search_rounds.proofs.AllIn.{AllIn}
use Rattle.search_rounds.proofs.Receivers.{Leads}

-- the initiator that has stepped back names what it named
pub leads_back : (g : Search) (s : Session) → Placed g s → (m : Message) → Leads g (step_back (own_in g (lead g)) (take_report s.machine m))
unfolding step_back take_report
leads_back g s placed m = record { processes = machine_n g s placed; me = placed.machine_me; purpose = placed.machine_purpose }

-- the report that arrives was one of the messages to be delivered
pub report_counts : (phase : ℕ → Phase) (k : ℕ) → k < 16 → phase k ≡ reported → 1 ≤ sum_to 16 (λ q. weight (phase q))
report_counts phase k h e =
    let counts : weight (phase k) ≡ 1 = ap weight e in omega (arith, sum_at 16 (λ q. weight (phase q)) k h)

module _ (g : Search) (s : Session) (box : ℕ → List ℕ) (phase : ℕ → Phase) (ahead k : ℕ) (is : IsSearch g) (w : Waits g s box phase ahead)
    (there : is_part g k ≡ true) (rep : IsReported g s k (box k)) (m : Message) (arrived : Arrived g s k (box k) m)
    (none : someone (take_report s.machine m).awaited ≡ false) where
  abbrev own : Own
  own = own_in g (lead g)

  abbrev state : Initiator
  state = s.machine

  abbrev taken : Initiator
  taken = take_report state m

  abbrev back : Initiator
  back = step_back own taken

  -- ---- the participants

  not_awaited : (q : ℕ) → q < 16 → (q ≡ k → ⊥) → flag state.awaited q ≡ false
  not_awaited q h ne =
      sym (and-true (flag state.awaited q))
      ∙ (ap (λ (t : Bool). flag state.awaited q && not t) (sym (ne_eqb q k ne))
      ∙ (sym (arrived.flags q h) ∙ none_flagged taken.awaited none q h))

  must_be_quiet : (q : ℕ) → is_part g q ≡ true → (f : Phase) → InPhase g s q (box q) f → flag state.awaited q ≡ false → IsQuiet g s q (box q)
  must_be_quiet q part quiet p off = p
  must_be_quiet q part reported p off =
      absurd (true≢false (sym (rw (part_me g is q part p.sender p.from) at p.waits.awaited) ∙ off))
  must_be_quiet q part asked p off = absurd (true≢false (sym p.awaited ∙ off))

  is_quiet : (q : ℕ) → is_part g q ≡ true → (q ≡ k → ⊥) → IsQuiet g s q (box q)
  is_quiet q part ne = must_be_quiet q part (phase q) (w.in_phase q part) (not_awaited q (part_within g is q part) ne)

  -- k's report is the last
  by_sender : (P : ℕ → Type 0) → P k → ((q : ℕ) → is_part g q ≡ true → (q ≡ k → ⊥) → IsQuiet g s q (box q) → P q)
      → (q : ℕ) → is_part g q ≡ true → P q
  by_sender P here others q part = elim (ℕ_discrete q k) [
    | yes e ↦ subst P (sym e) here
    | no ne ↦ others q part ne (is_quiet q part ne)
  ]

  -- ---- the rows

  me_is : state.me.0 - 1 ≡ lead g
  me_is = ap (λ (p : Process). p.0 - 1) w.placed.machine_me

  taken_held : (q : ℕ) → is_part g q ≡ true → SameEntries (row taken.matrix q) (participant_at s q).row
  taken_held =
      by_sender (λ q. SameEntries (row taken.matrix q) (participant_at s q).row) arrived.row_held
      (λ q part ne p i h. arrived.other_held q (part_within g is q part) ne i h ∙ p.row_held i h)

  -- the initiator's own step back changes its own row alone
  back_held : (q : ℕ) → is_part g q ≡ true → SameEntries (row back.matrix q) (participant_at s q).row
  unfolding step_back take_report
  back_held q part i h =
      let r : ℕ = newest_permitted own (column taken.matrix (state.me.0 - 1)) in
      other_rows taken.matrix (sent_row own r) (state.me.0 - 1) q i (part_within g is q part) h (λ e. part_other g q part (e ∙ me_is))
      ∙ taken_held q part i h

  -- ---- the initiator, which has stepped back: `machine` is what it is after its step

  module _ (machine : Initiator) (step_is : (step own state m).state ≡ machine) (same_matrix : machine.matrix ≡ back.matrix)
      (me : machine.me ≡ state.me) (purpose : machine.purpose ≡ state.purpose) (kept : kept_matrix machine ≡ machine.matrix)
      (searching : (machine.ended && eqb machine.purpose 2) ≡ false) (few : machine.rounds < tally_limit) where
    machine_fits : fits own machine ≡ true
    machine_fits =
        subst (λ (i : Initiator). i.rounds < tally_limit → fits own i ≡ true) step_is (step_fits own state m arrived.accepts) few

    fit : fitting.Fit own machine
    fit = fitting.fits_in own machine machine_fits

    search : fitting.Searches own machine machine.matrix
    search = fitting.search_in own machine machine.matrix kept searching fit.stage

    lead_is : machine.me.0 - 1 ≡ lead g
    lead_is = ap (λ (p : Process). p.0 - 1) me ∙ me_is

    state_fit : fitting.Fit own state
    state_fit = before.fit own state m arrived.accepts

    fallen : (machine.candidate.0 ≤ state.candidate.0)
        × ((j p : ℕ) → j < 16 → p < 16 → entry machine.matrix j p ≤ entry state.matrix j p)
    fallen =
        let all = never_raised own state m arrived.accepts in (
          subst (λ (i : Initiator). i.candidate.0 ≤ state.candidate.0) step_is all.0,
          subst (λ (i : Initiator). (j p : ℕ) → j < 16 → p < 16 → entry i.matrix j p ≤ entry state.matrix j p) step_is all.1,
        )

    pub settled : AllIn g s k box machine
    settled =
        record {
          me = me ∙ w.placed.machine_me;
          purpose = purpose ∙ w.placed.machine_purpose;
          processes = fit.processes;
          fitting = machine_fits;
          searching = by_sender (λ q. (participant_at s q).stage ≡ Searching) arrived.searching (λ q part ne p. p.searching);
          row_held = rw same_matrix back_held;
          column_held =
              by_sender (λ q. SameEntries (participant_at s q).column (column state.copy q)) rep.column_held
              (λ q part ne p. p.column_held);
          empty = λ q part ne. (is_quiet q part ne).empty;
          own_row = rw lead_is at search.own_row;
          newest = rw lead_is at search.newest;
          some = fit.some;
          among = fit.among;
          back = fallen.0;
          low = λ j p i h. omega (arith, fallen.1 j p i h, state_fit.below j p i h);
          zeros = subst (λ (n : ℕ). Zeros n machine.matrix) fit.processes fit.zeros;
          zeros_copy = subst (λ (n : ℕ). Zeros n state.copy) state_fit.processes state_fit.zeros_copy;
        }
