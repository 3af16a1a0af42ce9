-- Question 13 of a state: what each test leaves to the later ones; and what question 10 tells.
use mathlib.Core.Path.{◌≡◌, sym, subst, ◌∙◌}
use mathlib.Core.Bool.{Bool, true, false, not, ◌&&◌}
use mathlib.Core.List.{List}
use Prim.Native.Nat.{ℕ, ◌-◌, ◌≤◌, ◌<◌}
use borrow.Author.Tests.{eq-eqb, ne_eqb, le-leb, lt-leb}
use lib.Dec.{eqb, leb}
use Rattle.book.specs.declared.Count.{Count}
use Rattle.lists.proofs.Tests.{and_both, both_and, and_first, and_second, and_rest}
use Rattle.matrix.specs.Matrix.{not_known_row}
use Rattle.matrix.specs.Entries.{same, rest_zero}
use Rattle.book.specs.Names.{is_named}
use Rattle.book.proofs.Names.{named_in}
use Rattle.machine.specs.Own.{Own, has_checkpoint, sent_row, newest_permitted}
use Rattle.machine.specs.Named.{participant_named}
use Rattle.participant.specs.declared.Participant.{Participant}
use Rattle.participant.specs.declared.Stage.TheVariants.{Ended}
use Rattle.participant.specs.Fits.{search_fits, unknown_on, stage_fits, fits}

-- ---- nothing known, on checkpoint r

module _ (r : ℕ) (state : Participant) where
  abbrev unknown : List Count
  unknown = not_known_row state.n (state.me.0 - 1)

  pub unknown_elsewhere : eqb state.candidate.0 r ≡ false → unknown_on r state ≡ false
  unfolding unknown_on
  unknown_elsewhere h = and_first (eqb state.candidate.0 r) (same state.row unknown && same state.column unknown) h

  unknown_here : eqb state.candidate.0 r ≡ true → unknown_on r state ≡ (same state.row unknown && same state.column unknown)
  unfolding unknown_on
  unknown_here h = and_rest (eqb state.candidate.0 r) (same state.row unknown && same state.column unknown) h

  pub unknown_row : eqb state.candidate.0 r ≡ true → same state.row unknown ≡ false → unknown_on r state ≡ false
  unknown_row h a = unknown_here h ∙ and_first (same state.row unknown) (same state.column unknown) a

  pub unknown_column : eqb state.candidate.0 r ≡ true → same state.row unknown ≡ true
      → unknown_on r state ≡ same state.column unknown
  unknown_column h a = unknown_here h ∙ and_rest (same state.row unknown) (same state.column unknown) a

-- ---- the conditions of question 13

module _ (own : Own) (state : Participant) where
  abbrev r : ℕ
  r = state.candidate.0

  pub search_row : same state.row (sent_row own r) ≡ false → search_fits own state ≡ false
  unfolding search_fits
  search_row h = and_first (same state.row (sent_row own r)) (eqb r (newest_permitted own state.column)) h

  pub search_newest : (newest : ℕ) → newest ≡ newest_permitted own state.column → same state.row (sent_row own r) ≡ true
      → search_fits own state ≡ eqb r newest
  unfolding search_fits
  search_newest newest e h =
      subst (λ (k : ℕ). search_fits own state ≡ eqb r k) (sym e)
      (and_rest (same state.row (sent_row own r)) (eqb r (newest_permitted own state.column)) h)

  pub ended_oldest : state.purpose ≡ 2 → stage_fits own state Ended ≡ unknown_on 1 state
  ended_oldest h = rw (eq-eqb state.purpose 2 h)

  pub ended_searched : (state.purpose ≡ 2 → ⊥) → stage_fits own state Ended ≡ search_fits own state
  ended_searched h = rw (ne_eqb state.purpose 2 h)

  abbrev down : ℕ
  down = state.me.0 - 1

  -- what is left after the size, the candidate, the row and the column
  abbrev after_column : Bool
  after_column = stage_fits own state state.stage

  abbrev after_row : Bool
  after_row = rest_zero state.n down state.column && after_column

  abbrev after_candidate : Bool
  after_candidate = rest_zero state.n down state.row && after_row

  pub fits_size : (state.n ≡ own.n → ⊥) → fits own state ≡ false
  unfolding fits
  fits_size h = and_first (eqb state.n own.n) (has_checkpoint own r && after_candidate) (ne_eqb state.n own.n h)

  sized : state.n ≡ own.n → fits own state ≡ (has_checkpoint own r && after_candidate)
  unfolding fits
  sized h = and_rest (eqb state.n own.n) (has_checkpoint own r && after_candidate) (eq-eqb state.n own.n h)

  pub fits_none_below : state.n ≡ own.n → r < 1 → fits own state ≡ false
  fits_none_below h b =
      sized h ∙ and_first (has_checkpoint own r) after_candidate (and_first (leb 1 r) (leb r own.count) (lt-leb 1 r b))

  pub fits_none_above : state.n ≡ own.n → own.count < r → fits own state ≡ false
  fits_none_above h b =
      sized h ∙ and_first (has_checkpoint own r) after_candidate (and_second (leb 1 r) (leb r own.count) (lt-leb r own.count b))

  there : state.n ≡ own.n → (1 ≤ r) × (r ≤ own.count) → fits own state ≡ after_candidate
  there h b =
      sized h
      ∙ and_rest (has_checkpoint own r) after_candidate
      (both_and (leb 1 r) (leb r own.count) (le-leb 1 r b.0) (le-leb r own.count b.1))

  pub fits_row : state.n ≡ own.n → (1 ≤ r) × (r ≤ own.count) → rest_zero state.n down state.row ≡ false
      → fits own state ≡ false
  fits_row h b z = there h b ∙ and_first (rest_zero state.n down state.row) after_row z

  pub fits_column : state.n ≡ own.n → (1 ≤ r) × (r ≤ own.count) → rest_zero state.n down state.row ≡ true
      → rest_zero state.n down state.column ≡ false → fits own state ≡ false
  fits_column h b z y =
      there h b
      ∙ and_rest (rest_zero state.n down state.row) after_row z
      ∙ and_first (rest_zero state.n down state.column) after_column y

  pub fits_stage : state.n ≡ own.n → (1 ≤ r) × (r ≤ own.count) → rest_zero state.n down state.row ≡ true
      → rest_zero state.n down state.column ≡ true → fits own state ≡ after_column
  fits_stage h b z y =
      there h b
      ∙ and_rest (rest_zero state.n down state.row) after_row z
      ∙ and_rest (rest_zero state.n down state.column) after_column y

-- ---- the names

pub named_there : (n me initiator : ℕ) → participant_named n me initiator ≡ true
    → ((1 ≤ me) × (me ≤ n)) × ((1 ≤ initiator) × (initiator ≤ n))
named_there n me initiator h =
    let both = and_both (is_named n me) (is_named n initiator && not (eqb me initiator)) h in
    let other = and_both (is_named n initiator) (not (eqb me initiator)) both.1 in
    (named_in n me both.0, named_in n initiator other.0)
