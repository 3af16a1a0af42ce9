-- The initiator's own step back, and its step as a whole.
use mathlib.Core.Path.{◌≡◌, refl, sym, subst, ap, ◌∙◌}
use mathlib.Core.Bool.{Bool, true, false, not, ◌&&◌}
use mathlib.Core.List.{List}
use Prim.Native.Nat.{ℕ, ◌+◌, ◌-◌, ◌≤◌, ◌<◌}
use native.Mathlib.Omega.{arith}
use Rattle.book.specs.declared.Count.{Count}
use Rattle.lists.proofs.Tests.{and_both}
use Rattle.lists.proofs.Over.{get_d_tab}
use Rattle.consistency.specs.Known.{counters}
use Rattle.lists.specs.Pick.{pick}
use Rattle.matrix.specs.Matrix.{entry, column, with_row, is_pair}
use Rattle.matrix.specs.Entries.{same}
use Rattle.message.specs.declared.Message.{Message}
use Rattle.machine.specs.Own.{Own, sent_row, newest_permitted}
use Rattle.machine.specs.Named.{is_participant, tally_limit}
use Rattle.machine.specs.Flags.{someone}
use Rattle.machine_laws.proofs.Pairs.{self_no_pair}
use Rattle.machine_laws.proofs.Rows.{column_at, sent_at}
use Rattle.machine_laws.proofs.Checkpoints.{checkpoint_in}
use Rattle.machine_laws.proofs.Theorems.{newest_exists, newest_falls, sent_falls}
use Rattle.initiator.specs.declared.Initiator.{Initiator}
use Rattle.initiator.specs.Fits.{fits}
use Rattle.initiator.specs.Begin.{wait}
use Rattle.initiator.specs.Step.{take_report, step_back, polled, poll, terminate, compare, silent, step}
use Rattle.initiator_laws.specs.Accepts.{Accepts, sends_poll}
use Rattle.initiator_laws.specs.Statements.{StepFits, NeverRaised, Rounds}
use Rattle.initiator_laws.proofs.Entries.{Zeros, Below, Only, with_row_each, own_column}
use Rattle.initiator_laws.proofs.Fit.{Fit, fits_out, Searches, search_out}
use Rattle.initiator_laws.proofs.Begun.{wait_fit}
use Rattle.initiator_laws.proofs.Reported.{fit, searching, searches, reported, reported_low, reported_zeros, still_only, taken_fit}

polled_only : (state : Initiator) → Only state.n (state.me.0 - 1) (polled state)
unfolding polled
polled_only state p k e =
    let there : ℕ → Bool = λ q. is_participant state.n (state.me.0 - 1) q in
    let differs : ℕ → Bool = λ q. not (same (column state.matrix q) (column state.copy q)) in
    (and_both (there p) (differs p) (sym (get_d_tab 16 (λ q. there q && differs q) p false k) ∙ e)).0

-- ---- the own step back

module _ (own : Own) (state : Initiator) (m : Message) (a : Accepts own state m) where
  abbrev me : ℕ
  me = state.me.0 - 1

  abbrev told : List Count
  told = reported own state m a

  -- the new candidate, and the matrix with its row
  abbrev found : ℕ
  found = newest_permitted own (column told me)

  abbrev matrix : List Count
  matrix = with_row told me (sent_row own found)

  abbrev back : Initiator
  back = step_back own (take_report state m)

  me_within : me < 16
  me_within = omega (arith, a.own_is.present, a.own_is.most)

  exists : (1 ≤ found) × (found ≤ own.count)
  exists = checkpoint_in own found (newest_exists own me (column told me) a.own_is)

  found_back : found ≤ state.candidate.0
  found_back =
      let before : state.candidate.0 ≡ newest_permitted own (column state.copy me) = (searches own state m a).newest in
      omega (arith, before, newest_falls own (column state.copy me) (column told me) less)
    where
      less : (p : ℕ) → p < own.n → counters (column told me) p ≤ counters (column state.copy me) p
      less p h =
          let k : p < 16 = omega (arith, a.own_is.most) in
          rw (column_at told p me k, column_at state.copy p me k)
          (omega (arith, reported_low own state m a p me k me_within, (fit own state m a).below p me k me_within))

  matrix_low : Below matrix state.matrix
  matrix_low =
      with_row_each (λ i p v. v ≤ entry state.matrix i p) told (sent_row own found) me
      (λ p k. here p k) (λ i p k l ne. reported_low own state m a i p k l)
    where
      here : (p : ℕ) → p < 16 → counters (sent_row own found) p ≤ entry state.matrix me p
      here p k =
          rw (sent_at own found p k, (searches own state m a).own_row p k)
          (sent_falls own me state.candidate.0 found p a.own_is k exists.0 found_back (fit own state m a).among)

  matrix_zeros : Zeros own.n matrix
  matrix_zeros =
      with_row_each (λ i p v. is_pair own.n i p ≡ false → v ≡ 0) told (sent_row own found) me
      (λ p k none. sent_at own found p k ∙ a.own_is.rest found p k exists.0 exists.1 none)
      (λ i p k l ne none. reported_zeros own state m a i p k l none)

  matrix_row : (p : ℕ) → p < 16 → entry matrix me p ≡ own.S found p
  matrix_row p k =
      with_row_each (λ i p v. i ≡ me → v ≡ own.S found p) told (sent_row own found) me (λ p k e. sent_at own found p k)
      (λ i p k l ne e. absurd (ne e)) me p me_within k refl

  -- the own entry of the own row is zero, before and after: so the column that the step back looked at stays
  same_column : column matrix me ≡ column told me
  same_column =
      own_column told (sent_row own found) me me_within
      (sent_at own found me me_within
      ∙ (a.own_is.rest found me me_within exists.0 exists.1 (self_no_pair own.n me)
      ∙ sym (reported_zeros own state m a me me me_within me_within (self_no_pair own.n me))))

  back_searches : Searches own back matrix
  unfolding step_back take_report
  back_searches = record { own_row = matrix_row; newest = ap (newest_permitted own) (sym same_column) }

  -- ---- then it polls or ends

  zeros_of : Zeros state.n matrix
  zeros_of = subst (λ (n : ℕ). Zeros n matrix) (sym (fit own state m a).processes) matrix_zeros

  poll_fit : someone (polled back) ≡ true → state.rounds + 1 < tally_limit → Fit own (wait back (polled back))
  unfolding step_back take_report
  poll_fit some few =
      wait_fit own back (polled back) (fit own state m a).processes exists.0 exists.1 zeros_of (polled_only back) some back_searches few

  end_fit : Fit own (terminate back).state
  unfolding terminate step_back take_report
  end_fit =
      record {
        processes = (fit own state m a).processes;
        some = exists.0;
        among = exists.1;
        zeros = zeros_of;
        zeros_copy = (fit own state m a).zeros_copy;
        only = still_only own state m a;
        stage =
            search_out own (terminate back).state matrix refl (searching own state m a)
            (record { own_row = matrix_row; newest = ap (newest_permitted own) (sym same_column) });
        below = λ j p k l. omega (arith, matrix_low j p k l, (fit own state m a).below j p k l);
        waits = refl;
        few = (fit own state m a).few;
      }

-- ---- the step

-- reports are still out, or it polls, or it ends
pub step_cases : (P : Initiator → Type 0) (own : Own) (state : Initiator) (m : Message)
    → (someone (take_report state m).awaited ≡ true → P (take_report state m))
    → (someone (polled (step_back own (take_report state m))) ≡ true → P (poll (step_back own (take_report state m))).state)
    → P (terminate (step_back own (take_report state m))).state → P (step own state m).state
unfolding step compare
step_cases P own state m out polling ending = go (someone taken.awaited) refl (someone (polled back)) refl
  where
    taken : Initiator
    taken = take_report state m

    back : Initiator
    back = step_back own taken

    go : (t : Bool) → someone taken.awaited ≡ t → (u : Bool) → someone (polled back) ≡ u → P (step own state m).state
    go true e u f = subst (λ (t : Bool). P (pick t (silent taken) (compare back)).state) (sym e) (out e)
    go false e true f =
        subst (λ (t : Bool). P (pick t (silent taken) (compare back)).state) (sym e)
        (subst (λ (t : Bool). P (pick t (poll back) (terminate back)).state) (sym f) (polling f))
    go false e false f =
        subst (λ (t : Bool). P (pick t (silent taken) (compare back)).state) (sym e)
        (subst (λ (t : Bool). P (pick t (poll back) (terminate back)).state) (sym f) ending)

pub step_fits : StepFits
unfolding poll wait step_back take_report
step_fits own state m a =
    step_cases (λ s. s.rounds < tally_limit → fits own s ≡ true) own state m
    (λ e few. fits_out own (take_report state m) (taken_fit own state m a e))
    (λ e few. fits_out own (poll (step_back own (take_report state m))).state (poll_fit own state m a e few))
    (λ few. fits_out own (terminate (step_back own (take_report state m))).state (end_fit own state m a))

-- neither the candidate nor an entry is above the state's before
record NoHigher (before after : Initiator) : Type 0 where
  candidate : after.candidate.0 ≤ before.candidate.0
  matrix : Below after.matrix before.matrix
  copy : Below after.copy before.copy

pub never_raised : NeverRaised
unfolding poll terminate wait step_back take_report
never_raised own state m a =
    let all : NoHigher state (step own state m).state =
    step_cases (NoHigher state) own state m
    (λ e. record { candidate = omega arith; matrix = reported_low own state m a; copy = λ j p k l. omega arith })
    (λ e.
    record {
      candidate = found_back own state m a;
      matrix = matrix_low own state m a;
      copy = λ j p k l. omega (arith, matrix_low own state m a j p k l, (fit own state m a).below j p k l);
    })
    (record { candidate = found_back own state m a; matrix = matrix_low own state m a; copy = λ j p k l. omega arith }) in
    (all.candidate, all.matrix, all.copy)

pub rounds : Rounds
unfolding step compare poll terminate wait step_back take_report
rounds own state m = go (someone (take_report state m).awaited) refl (someone (polled (step_back own (take_report state m)))) refl
  where
    go : (t : Bool) → someone (take_report state m).awaited ≡ t → (u : Bool) → someone (polled (step_back own (take_report state m))) ≡ u
        → (step own state m).state.rounds ≡ state.rounds + pick (sends_poll own state m) 1 0
    go true e u f = rw e (omega arith)
    go false e true f = rw (e, f)
    go false e false f = rw (e, f) (omega arith)
