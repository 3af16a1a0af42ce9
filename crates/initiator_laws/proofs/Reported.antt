-- A message that the initiator accepts is a report of a participant whose it awaits; and the state once it is taken in.
use mathlib.Core.Path.{◌≡◌, refl, sym, subst, ap, ◌∙◌}
use mathlib.Core.Bool.{Bool, true, false, not, ◌&&◌, ◌||◌}
use mathlib.Core.List.{List}
use Prim.Native.Nat.{ℕ, ◌-◌, ◌≤◌, ◌<◌}
use native.Mathlib.Omega.{arith}
use borrow.Author.Tests.{eqb-true, eqb-false, not-true}
use lib.Dec.{ltb, eqb}
use Rattle.book.specs.declared.Count.{Count}
use Rattle.lists.proofs.Tests.{and_both, first_of_or}
use Rattle.lists.proofs.Over.{get_d_tab}
use Rattle.consistency.specs.Known.{counters}
use Rattle.matrix.specs.Matrix.{entry, row, with_row, is_pair}
use Rattle.matrix.specs.Entries.{patch}
use Rattle.matrix.proofs.Theorems.{patch_not_raised}
use Rattle.message.specs.declared.Message.{Message}
use Rattle.machine.specs.Own.{Own}
use Rattle.machine.specs.Named.{is_participant}
use Rattle.machine.specs.Flags.{flag, someone}
use Rattle.machine_laws.proofs.Rows.{row_at, zero_patched}
use Rattle.machine_laws.proofs.Messages.{head_in, news_rest}
use Rattle.initiator.specs.declared.Initiator.{Initiator}
use Rattle.initiator.specs.Fits.{fits}
use Rattle.initiator.specs.Step.{sender_of, whole_if_first, awaits, take_report}
use Rattle.initiator_laws.specs.Accepts.{Accepts}
use Rattle.initiator_laws.proofs.Entries.{Zeros, Below, Only, with_row_each}
use Rattle.initiator_laws.proofs.Fit.{Fit, fits_in, Searches, search_in, search_out}

-- ---- question 15, fact by fact

record Awaited (state : Initiator) (m : Message) : Type 0 where
  waits : state.ended ≡ false
  flagged : flag state.awaited (sender_of m) ≡ true
  purpose : m.head.purpose ≡ state.purpose
  kind : m.head.kind ≡ 2

awaits_in : (state : Initiator) (m : Message) → awaits state m ≡ true → Awaited state m
unfolding awaits
awaits_in state m h =
    let flagged : Bool = flag state.awaited (sender_of m) in
    let purpose : Bool = eqb m.head.purpose state.purpose in
    let kind : Bool = eqb m.head.kind 2 in
    let a = and_both (not state.ended) (flagged && (purpose && (kind && whole_if_first state m))) h in
    let b = and_both flagged (purpose && (kind && whole_if_first state m)) a.1 in
    let c = and_both purpose (kind && whole_if_first state m) b.1 in
    let d = and_both kind (whole_if_first state m) c.1 in
    record {
      waits = not-true state.ended a.0;
      flagged = b.0;
      purpose = eqb-true m.head.purpose state.purpose c.0;
      kind = eqb-true m.head.kind 2 d.0;
    }

-- a report is awaited of a participant, not of the initiator itself
pub sender_other : (own : Own) (state : Initiator) (m : Message) → fits own state ≡ true → awaits state m ≡ true → sender_of m < 16
    → sender_of m ≡ state.me.0 - 1 → ⊥
sender_other own state m fitting awaited within e =
    let me : ℕ = state.me.0 - 1 in
    let sender : ℕ = sender_of m in
    let part : is_participant state.n me sender ≡ true = (fits_in own state fitting).only sender within (awaits_in state m awaited).flagged in
    eqb-false sender me (not-true (eqb sender me) (and_both (ltb sender state.n) (not (eqb sender me)) part).1) e

-- ---- an accepted message

module _ (own : Own) (state : Initiator) (m : Message) (a : Accepts own state m) where
  abbrev me : ℕ
  me = state.me.0 - 1

  abbrev sender : ℕ
  sender = sender_of m

  pub fit : Fit own state
  fit = fits_in own state a.fitting

  told : Awaited state m
  told = awaits_in state m a.awaited

  head : (1 ≤ m.head.sender.0) × (m.head.sender.0 ≤ own.n) × ((not (eqb m.head.purpose 2) || eqb m.head.kind 1) ≡ true)
  head = head_in own.n m.head.kind m.head.purpose m.head.sender.0 a.formed.head

  -- a report is of a search
  pub searching : eqb state.purpose 2 ≡ false
  searching =
      let no_invitation : eqb m.head.kind 1 ≡ false = ap (λ (k : ℕ). eqb k 1) told.kind in
      subst (λ (p : ℕ). eqb p 2 ≡ false) told.purpose
      (not-true (eqb m.head.purpose 2) (first_of_or (not (eqb m.head.purpose 2)) (eqb m.head.kind 1) head.2 no_invitation))

  sender_there : sender < own.n
  sender_there = omega (arith, head.0, head.1)

  another : sender ≡ me → ⊥
  another = sender_other own state m a.fitting a.awaited (omega (arith, sender_there, a.own_is.most))

  pub searches : Searches own state state.copy
  searches = search_in own state state.copy (rw told.waits) (rw told.waits) fit.stage

  -- ---- the report taken in

  abbrev pub reported : List Count
  reported = with_row state.matrix sender (patch (row state.matrix sender) m.news)

  pub reported_low : Below reported state.matrix
  reported_low =
      with_row_each (λ i p v. v ≤ entry state.matrix i p) state.matrix (patch (row state.matrix sender) m.news) sender
      (λ p k.
      subst (λ (v : ℕ). counters (patch (row state.matrix sender) m.news) p ≤ v) (row_at state.matrix sender p k)
      (patch_not_raised (row state.matrix sender) m.news a.lower p k))
      (λ i p k l ne. omega arith)

  pub reported_zeros : Zeros own.n reported
  reported_zeros =
      with_row_each (λ i p v. is_pair own.n i p ≡ false → v ≡ 0) state.matrix (patch (row state.matrix sender) m.news) sender
      (λ p k none.
      zero_patched (row state.matrix sender) m.news p k
      (row_at state.matrix sender p k ∙ zeros sender p (omega (arith, sender_there, a.own_is.most)) k none)
      (news_rest own.n m.head.sender.0 m a.formed head.0 head.1 p k none))
      (λ i p k l ne none. zeros i p k l none)
    where
      zeros : Zeros own.n state.matrix
      zeros = subst (λ (n : ℕ). Zeros n state.matrix) fit.processes fit.zeros

  reported_row : (p : ℕ) → p < 16 → entry reported me p ≡ own.S state.candidate.0 p
  reported_row p k =
      with_row_each (λ i p v. i ≡ me → v ≡ entry state.matrix i p) state.matrix (patch (row state.matrix sender) m.news) sender
      (λ p k e. absurd (another e)) (λ i p k l ne e. refl) me p (omega (arith, a.own_is.present, a.own_is.most)) k refl
      ∙ searches.own_row p k

  pub still_only : Only state.n me (take_report state m).awaited
  unfolding take_report
  still_only p k e =
      let both : (flag state.awaited p && not (eqb p sender)) ≡ true =
      sym (get_d_tab 16 (λ q. flag state.awaited q && not (eqb q sender)) p false k) ∙ e in
      fit.only p k (and_both (flag state.awaited p) (not (eqb p sender)) both).0

  -- reports are still out
  pub taken_fit : someone (take_report state m).awaited ≡ true → Fit own (take_report state m)
  unfolding take_report
  taken_fit out =
      record {
        processes = fit.processes;
        some = fit.some;
        among = fit.among;
        zeros = subst (λ (n : ℕ). Zeros n reported) (sym fit.processes) reported_zeros;
        zeros_copy = fit.zeros_copy;
        only = still_only;
        stage =
            search_out own (take_report state m) state.copy (rw told.waits) (rw told.waits)
            (record { own_row = reported_row; newest = searches.newest });
        below = λ j p k l. omega (arith, reported_low j p k l, fit.below j p k l);
        waits = rw told.waits out;
        few = fit.few;
      }
