-- Question 13: what each test leaves to the later ones, and what is known of a state that fits.
use mathlib.Core.Path.{◌≡◌, sym, ap, subst, ◌∙◌}
use mathlib.Core.Logic.{◌⊎◌, ⊎_elim}
use mathlib.Core.Bool.{Bool, true, false, ◌&&◌, ◌||◌}
use mathlib.Core.List.{List}
use Prim.Native.Nat.{ℕ, ◌-◌, ◌≤◌, ◌<◌}
use borrow.Author.Tests.{ltb-true, eqb-true, eq-eqb, ne_eqb, le-leb, lt-leb}
use lib.Dec.{eqb, leb, ltb}
use Rattle.book.specs.declared.Count.{Count}
use Rattle.lists.proofs.Tests.{and_both, both_and, and_first, and_second, and_rest}
use Rattle.matrix.specs.Matrix.{row, column}
use Rattle.matrix.specs.Entries.{same}
use Rattle.matrix.specs.Whole.{all_none_above}
use Rattle.machine.specs.Own.{Own, has_checkpoint, sent_row, newest_permitted}
use Rattle.machine.specs.Named.{tally_limit}
use Rattle.machine.specs.Flags.{someone}
use Rattle.initiator.specs.declared.Initiator.{Initiator}
use Rattle.initiator.specs.Fits.{kept_matrix, search_fits, restart_fits, stage_fits, entries_fit, wait_fits, fits}

module _ (own : Own) (state : Initiator) where
  abbrev r : ℕ
  r = state.candidate.0

  abbrev me : ℕ
  me = state.me.0 - 1

  -- ---- the stage

  abbrev same_row : Bool
  same_row = same (row state.matrix me) (sent_row own r)

  pub search_row : same_row ≡ false → search_fits own state ≡ false
  unfolding search_fits
  search_row h = and_first same_row (eqb r (newest_permitted own (column (kept_matrix state) me))) h

  pub search_newest : (kept known : List Count) (found : ℕ) → kept ≡ kept_matrix state → known ≡ column kept me
      → found ≡ newest_permitted own known → same_row ≡ true → search_fits own state ≡ eqb r found
  unfolding search_fits
  search_newest kept known found e f g h =
      let there : known ≡ column (kept_matrix state) me = f ∙ ap (λ (m : List Count). column m me) e in
      let is : found ≡ newest_permitted own (column (kept_matrix state) me) = g ∙ ap (λ (k : List Count). newest_permitted own k) there in
      subst (λ (k : ℕ). search_fits own state ≡ eqb r k) (sym is)
      (and_rest same_row (eqb r (newest_permitted own (column (kept_matrix state) me))) h)

  pub stage_restarted : state.ended ≡ true → eqb state.purpose 2 ≡ true → stage_fits own state ≡ restart_fits state
  stage_restarted h k = rw (h, k)

  pub stage_searched : (state.ended ≡ false) ⊎ (eqb state.purpose 2 ≡ false) → stage_fits own state ≡ search_fits own state
  stage_searched h =
      rw (⊎_elim (and_first state.ended (eqb state.purpose 2)) (and_second state.ended (eqb state.purpose 2)) h)

  -- ---- all conditions

  abbrev after_entries : Bool
  after_entries = stage_fits own state && wait_fits state

  abbrev after_candidate : Bool
  after_candidate = entries_fit state && after_entries

  pub fits_size : (state.n ≡ own.n → ⊥) → fits own state ≡ false
  unfolding fits
  fits_size h = and_first (eqb state.n own.n) (has_checkpoint own r && after_candidate) (ne_eqb state.n own.n h)

  module _ (size : state.n ≡ own.n) where
    sized : fits own state ≡ (has_checkpoint own r && after_candidate)
    unfolding fits
    sized = and_rest (eqb state.n own.n) (has_checkpoint own r && after_candidate) (eq-eqb state.n own.n size)

    pub fits_none_below : r < 1 → fits own state ≡ false
    fits_none_below h = sized ∙ and_first (has_checkpoint own r) after_candidate (and_first (leb 1 r) (leb r own.count) (lt-leb 1 r h))

    pub fits_none_above : own.count < r → fits own state ≡ false
    fits_none_above h =
        sized ∙ and_first (has_checkpoint own r) after_candidate (and_second (leb 1 r) (leb r own.count) (lt-leb r own.count h))

    module _ (there : (1 ≤ r) × (r ≤ own.count)) where
      has : fits own state ≡ after_candidate
      has =
          sized
          ∙ and_rest (has_checkpoint own r) after_candidate
          (both_and (leb 1 r) (leb r own.count) (le-leb 1 r there.0) (le-leb r own.count there.1))

      pub fits_no_entries : entries_fit state ≡ false → fits own state ≡ false
      fits_no_entries h = has ∙ and_first (entries_fit state) after_entries h

      pub fits_no_stage : entries_fit state ≡ true → stage_fits own state ≡ false → fits own state ≡ false
      fits_no_stage h k = has ∙ and_rest (entries_fit state) after_entries h ∙ and_first (stage_fits own state) (wait_fits state) k

      pub fits_wait : entries_fit state ≡ true → stage_fits own state ≡ true → fits own state ≡ wait_fits state
      fits_wait h k = has ∙ and_rest (entries_fit state) after_entries h ∙ and_rest (stage_fits own state) (wait_fits state) k

  -- ---- a state that fits

  module _ (fit : fits own state ≡ true) where
    passed : (eqb state.n own.n ≡ true) × ((has_checkpoint own r && after_candidate) ≡ true)
    unfolding fits
    passed = and_both (eqb state.n own.n) (has_checkpoint own r && after_candidate) fit

    pub fitting_size : state.n ≡ own.n
    fitting_size = eqb-true state.n own.n passed.0

    waits : wait_fits state ≡ true
    waits =
        let entries = (and_both (has_checkpoint own r) after_candidate passed.1).1 in
        let stage = (and_both (entries_fit state) after_entries entries).1 in
        (and_both (stage_fits own state) (wait_fits state) stage).1

    pub fitting_rounds : state.rounds < tally_limit
    unfolding wait_fits
    fitting_rounds =
        let room : Bool = ltb state.rounds tally_limit in
        let someone_waited : Bool = state.ended || someone state.awaited in
        let flags = (and_both (all_none_above state.matrix state.copy) (someone_waited && room) waits).1 in
        ltb-true state.rounds tally_limit (and_both someone_waited room flags).1
