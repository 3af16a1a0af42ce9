-- Question 13 of an initiator, fact by fact.
use mathlib.Core.Path.{◌≡◌, sym, subst, ap, ◌∙◌}
use mathlib.Core.Bool.{Bool, true, false, ◌&&◌, ◌||◌}
use mathlib.Core.List.{List}
use Prim.Native.Nat.{ℕ, ◌-◌, ◌≤◌, ◌<◌}
use borrow.Author.Tests.{ltb-true, lt-ltb, eqb-true, eq-eqb}
use lib.Dec.{ltb, eqb}
use Rattle.book.specs.declared.Count.{Count}
use Rattle.lists.proofs.Tests.{and_both, both_and}
use Rattle.lists.specs.Pick.{pick}
use Rattle.matrix.specs.Matrix.{entry, row, column}
use Rattle.matrix.specs.Entries.{same}
use Rattle.matrix.specs.Whole.{all_rest_zero, all_none_above}
use Rattle.matrix.proofs.Theorems.{same_is_same}
use Rattle.machine.specs.Own.{Own, has_checkpoint, sent_row, newest_permitted}
use Rattle.machine.specs.Named.{tally_limit}
use Rattle.machine.specs.Flags.{someone, only_participants}
use Rattle.machine_laws.proofs.Rows.{row_at, sent_at}
use Rattle.machine_laws.proofs.Checkpoints.{checkpoint_in, checkpoint_out}
use Rattle.initiator.specs.declared.Initiator.{Initiator}
use Rattle.initiator.specs.Fits.{kept_matrix, search_fits, stage_fits, restart_fits, entries_fit, wait_fits, fits}
use Rattle.initiator_laws.proofs.Entries.{Zeros, zeros_in, zeros_out, Below, below_in, below_out, Only, only_in, only_out}

pub record Fit (own : Own) (state : Initiator) : Type 0 where
  pub processes : state.n ≡ own.n
  pub some : 1 ≤ state.candidate.0
  pub among : state.candidate.0 ≤ own.count
  pub zeros : Zeros state.n state.matrix
  pub zeros_copy : Zeros state.n state.copy
  pub only : Only state.n (state.me.0 - 1) state.awaited
  pub stage : stage_fits own state ≡ true
  pub below : Below state.matrix state.copy
  pub waits : (state.ended || someone state.awaited) ≡ true
  pub few : state.rounds < tally_limit

module _ (own : Own) (state : Initiator) where
  abbrev me : ℕ
  me = state.me.0 - 1

  pub fits_in : fits own state ≡ true → Fit own state
  unfolding fits entries_fit wait_fits
  fits_in h =
      let there : Bool = has_checkpoint own state.candidate.0 in
      let a = and_both (eqb state.n own.n) (there && (entries_fit state && (stage_fits own state && wait_fits state))) h in
      let b = and_both there (entries_fit state && (stage_fits own state && wait_fits state)) a.1 in
      let c = and_both (entries_fit state) (stage_fits own state && wait_fits state) b.1 in
      let d = and_both (stage_fits own state) (wait_fits state) c.1 in
      let zeros : List Count → Bool = all_rest_zero state.n in
      let only : Bool = only_participants state.n me state.awaited in
      let waiting : Bool = state.ended || someone state.awaited in
      let few : Bool = ltb state.rounds tally_limit in
      let e = and_both (zeros state.matrix) (zeros state.copy && only) c.0 in
      let f = and_both (zeros state.copy) only e.1 in
      let g = and_both (all_none_above state.matrix state.copy) (waiting && few) d.1 in
      let k = and_both waiting few g.1 in
      record {
        processes = eqb-true state.n own.n a.0;
        some = (checkpoint_in own state.candidate.0 b.0).0;
        among = (checkpoint_in own state.candidate.0 b.0).1;
        zeros = zeros_in state.n state.matrix e.0;
        zeros_copy = zeros_in state.n state.copy f.0;
        only = only_in state.n me state.awaited f.1;
        stage = d.0;
        below = below_in state.matrix state.copy g.0;
        waits = k.0;
        few = ltb-true state.rounds tally_limit k.1;
      }

  pub fits_out : Fit own state → fits own state ≡ true
  unfolding fits entries_fit wait_fits
  fits_out fit =
      rw (
        eq-eqb state.n own.n fit.processes,
        checkpoint_out own state.candidate.0 fit.some fit.among,
        zeros_out state.n state.matrix fit.zeros,
        zeros_out state.n state.copy fit.zeros_copy,
        only_out state.n me state.awaited fit.only,
        fit.stage,
        below_out state.matrix state.copy fit.below,
        fit.waits,
        lt-ltb state.rounds tally_limit fit.few,
      )

  -- ---- the row and the column conditions, with the matrix that the kept column stands in

  pub record Searches (kept : List Count) : Type 0 where
    pub own_row : (p : ℕ) → p < 16 → entry state.matrix me p ≡ own.S state.candidate.0 p
    pub newest : state.candidate.0 ≡ newest_permitted own (column kept me)

  module _ (kept : List Count) (kept_is : kept_matrix state ≡ kept) (searching : (state.ended && eqb state.purpose 2) ≡ false) where
    -- the two tests
    abbrev rows : Bool
    rows = same (row state.matrix me) (sent_row own state.candidate.0)

    abbrev candidate : Bool
    candidate = eqb state.candidate.0 (newest_permitted own (column (kept_matrix state) me))

    pub search_in : stage_fits own state ≡ true → Searches kept
    unfolding search_fits
    search_in h =
        let s : search_fits own state ≡ true = rw searching at h in
        let b = and_both rows candidate s in
        record {
          own_row = λ p i.
              sym (row_at state.matrix me p i)
              ∙ ((same_is_same (row state.matrix me) (sent_row own state.candidate.0)).0 b.0 p i
              ∙ sent_at own state.candidate.0 p i);
          newest =
              eqb-true state.candidate.0 (newest_permitted own (column (kept_matrix state) me)) b.1
              ∙ ap (λ (l : List Count). newest_permitted own (column l me)) kept_is;
        }

    rows_out : Searches kept → rows ≡ true
    rows_out s =
        (same_is_same (row state.matrix me) (sent_row own state.candidate.0)).1 (λ p i.
        row_at state.matrix me p i ∙ (s.own_row p i ∙ sym (sent_at own state.candidate.0 p i)))

    candidate_out : Searches kept → candidate ≡ true
    candidate_out s =
        eq-eqb state.candidate.0 (newest_permitted own (column (kept_matrix state) me))
        (s.newest ∙ ap (λ (l : List Count). newest_permitted own (column l me)) (sym kept_is))

    pub search_out : Searches kept → stage_fits own state ≡ true
    unfolding search_fits
    search_out s =
        subst (λ (t : Bool). pick t (restart_fits state) (search_fits own state) ≡ true) (sym searching)
        (both_and rows candidate (rows_out s) (candidate_out s))
