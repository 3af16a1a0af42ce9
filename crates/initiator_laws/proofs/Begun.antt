-- An initiator that waits or has ended, and how it begins.
use mathlib.Core.Path.{◌≡◌, refl, sym, subst, ap, ◌∙◌}
use mathlib.Core.Bool.{Bool, true, false, not, ◌&&◌, true≢false}
use mathlib.Core.List.{List}
use Prim.Native.Nat.{ℕ, ◌+◌, ◌-◌, ◌≤◌, ◌<◌}
use native.Mathlib.Omega.{arith}
use lib.Dec.{eqb}
use Rattle.book.specs.declared.Count.{Count}
use Rattle.book.specs.declared.Process.{Process}
use Rattle.book.specs.Bounds.{mark}
use Rattle.lists.proofs.Over.{get_d_tab}
use Rattle.line_theory.proofs.Tests.{permitted_out}
use Rattle.consistency.specs.Known.{counters}
use Rattle.consistency.proofs.Permits.{newest_here}
use Rattle.lists.specs.Pick.{pick}
use Rattle.matrix.specs.Matrix.{entry, column, with_row, is_pair, not_known_at, not_known_matrix}
use Rattle.matrix.proofs.Theorems.{entry_with_row}
use Rattle.machine.specs.Own.{Own, sent_row, newest_permitted}
use Rattle.machine.specs.Named.{is_participant, tally_limit}
use Rattle.machine.specs.Flags.{flag, someone, participants, nobody}
use Rattle.machine_laws.specs.Own.{IsOwn}
use Rattle.machine_laws.proofs.Pairs.{is_pair_lem, pair_sym}
use Rattle.machine_laws.proofs.Rows.{column_at, sent_at, not_known_at_lem}
use Rattle.initiator.specs.declared.Initiator.{Initiator}
use Rattle.initiator.specs.Fits.{restart_fits, stage_fits}
use Rattle.initiator.specs.Begin.{wait, without_wait, begin_search, begin_restart, begin}
use Rattle.initiator_laws.specs.Statements.{BeginFits, FirstRound}
use Rattle.initiator_laws.proofs.Entries.{Zeros, Only, not_known_out, with_row_each}
use Rattle.initiator_laws.proofs.Fit.{Fit, fits_out, Searches, search_out}

-- a wait begins, with the copy made of the matrix
pub wait_fit : (own : Own) (state : Initiator) (awaited : List Bool) → state.n ≡ own.n → 1 ≤ state.candidate.0
    → state.candidate.0 ≤ own.count → Zeros state.n state.matrix → Only state.n (state.me.0 - 1) awaited
    → someone awaited ≡ true → Searches own state state.matrix → state.rounds + 1 < tally_limit → Fit own (wait state awaited)
unfolding wait
wait_fit own state awaited processes some among zeros only someone_is searches few =
    record {
      processes = processes;
      some = some;
      among = among;
      zeros = zeros;
      zeros_copy = zeros;
      only = only;
      stage = search_out own (wait state awaited) state.matrix refl refl (record { own_row = searches.own_row; newest = searches.newest });
      below = λ j p i k. omega arith;
      waits = someone_is;
      few = few;
    }

-- nobody is waited for
idle_fit : (own : Own) (me : Process) (purpose candidate : ℕ) (matrix : List Count) → 1 ≤ candidate → candidate ≤ own.count
    → Zeros own.n matrix → stage_fits own (without_wait own.n me purpose candidate matrix) ≡ true
    → Fit own (without_wait own.n me purpose candidate matrix)
unfolding without_wait
idle_fit own me purpose candidate matrix some among zeros stage =
    record {
      processes = refl;
      some = some;
      among = among;
      zeros = zeros;
      zeros_copy = zeros;
      only = λ p i e. absurd (no_flag p i e);
      stage = stage;
      below = λ j p i k. omega arith;
      waits = refl;
      few = omega arith;
    }
  where
    no_flag : (p : ℕ) → p < 16 → flag nobody p ≡ true → ⊥
    no_flag p i e = true≢false (sym e ∙ get_d_tab 16 (λ p. false) p false i)

-- ---- purpose 2

not_known_zeros : (n : ℕ) → Zeros n (not_known_matrix n)
not_known_zeros n j p i k none = not_known_at_lem n j p i k ∙ ap (λ (t : Bool). pick t mark 0) none

restart_fit : (own : Own) (me : Process) (purpose : ℕ) → 1 ≤ own.count → eqb purpose 2 ≡ true → Fit own (begin_restart own.n me purpose).state
unfolding begin_restart without_wait restart_fits
restart_fit own me purpose some two =
    idle_fit own me purpose 1 (not_known_matrix own.n) (omega arith) some (not_known_zeros own.n)
    (rw (two, not_known_out own.n (not_known_matrix own.n) (not_known_at_lem own.n)))

-- ---- a search

-- the matrix with which a search begins
abbrev pub begun : Own → ℕ → List Count
begun own me = with_row (not_known_matrix own.n) me (sent_row own own.count)

-- its column of process p: of the initiator what that has sent, of the others what is not known
pub begun_column : (own : Own) (me p k : ℕ) → k < 16 → p < 16
    → entry (begun own me) k p ≡ pick (eqb k me) (own.S own.count p) (not_known_at own.n p k)
begun_column own me p k i h =
    entry_with_row (not_known_matrix own.n) (sent_row own own.count) me k p i h
    ∙ (ap (λ (v : ℕ). pick (eqb k me) v (entry (not_known_matrix own.n) k p)) (sent_at own own.count p h)
    ∙ ap (pick (eqb k me) (own.S own.count p))
    (not_known_at_lem own.n k p i h ∙ ap (λ (t : Bool). pick t mark 0) (pair_sym own.n k p)))

module _ (own : Own) (me : ℕ) (is : IsOwn own me) where
  begun_zeros : Zeros own.n (begun own me)
  begun_zeros =
      with_row_each (λ i p v. is_pair own.n i p ≡ false → v ≡ 0) (not_known_matrix own.n) (sent_row own own.count) me
      (λ p k none. sent_at own own.count p k ∙ is.rest own.count p k is.some (omega arith) none)
      (λ i p k l ne none. not_known_zeros own.n i p k l none)

  begun_row : (p : ℕ) → p < 16 → entry (begun own me) me p ≡ own.S own.count p
  begun_row p k =
      with_row_each (λ i p v. i ≡ me → v ≡ own.S own.count p) (not_known_matrix own.n) (sent_row own own.count) me
      (λ p k e. sent_at own own.count p k) (λ i p k l ne e. absurd (ne e)) me p (omega (arith, is.present, is.most)) k refl

  -- "not known" permits everything, and the own column is zero
  begun_permits : (p : ℕ) → p < own.n → own.R own.count p ≤ counters (column (begun own me) me) p
  begun_permits p k =
      let here : p < 16 = omega (arith, is.most) in
      let there : me < 16 = omega (arith, is.present, is.most) in
      subst (λ (v : ℕ). own.R own.count p ≤ v) (sym (column_at (begun own me) p me here))
      (with_row_each (λ i q v. i < own.n → q ≡ me → own.R own.count i ≤ v) (not_known_matrix own.n) (sent_row own own.count) me
      (λ q l a e. omega (arith, is.none_from_itself own.count is.some (omega arith)))
      (λ i q l l' ne a e. elsewhere i q l l' ne a e) p me here there k refl)
    where
      elsewhere : (i q : ℕ) → i < 16 → q < 16 → (i ≡ me → ⊥) → i < own.n → q ≡ me → own.R own.count i ≤ entry (not_known_matrix own.n) i q
      elsewhere i q l l' ne a e =
          let pair : is_pair own.n i q ≡ true =
          rw e (is_pair_lem own.n i me a is.present ne) in
          let known : entry (not_known_matrix own.n) i q ≡ mark =
          not_known_at_lem own.n i q l l' ∙ ap (λ (t : Bool). pick t mark 0) pair in
          rw known (is.received own.count i a is.some (omega arith))

  begun_newest : own.count ≡ newest_permitted own (column (begun own me) me)
  begun_newest =
      sym (newest_here own.n own.R (counters (column (begun own me) me)) own.count is.some
      (permitted_out own.n (own.R own.count) (counters (column (begun own me) me)) begun_permits))

-- a search has it whether it waits for somebody or not
pub search_matrix : (own : Own) (me : Process) (purpose : ℕ) → (begin_search own me purpose).state.matrix ≡ begun own (me.0 - 1)
unfolding begin_search wait without_wait
search_matrix own me purpose = go (someone (participants own.n (me.0 - 1))) refl
  where
    go : (t : Bool) → someone (participants own.n (me.0 - 1)) ≡ t → (begin_search own me purpose).state.matrix ≡ begun own (me.0 - 1)
    go true e = rw e
    go false e = rw e

participants_only : (n me : ℕ) → Only n me (participants n me)
unfolding participants
participants_only n me p i e = sym (get_d_tab 16 (λ q. is_participant n me q) p false i) ∙ e

module _ (own : Own) (me : Process) (purpose : ℕ) (is : IsOwn own (me.0 - 1)) (other : eqb purpose 2 ≡ false) where
  abbrev others : List Bool
  others = participants own.n (me.0 - 1)

  abbrev first : List Count
  first = begun own (me.0 - 1)

  abbrev start : Initiator
  start = without_wait own.n me purpose own.count first

  searches : Searches own start first
  unfolding without_wait
  searches = record { own_row = begun_row own (me.0 - 1) is; newest = begun_newest own (me.0 - 1) is }

  waiting : someone others ≡ true → Fit own (wait start others)
  unfolding without_wait
  waiting e =
      wait_fit own start others refl is.some (omega arith) (begun_zeros own (me.0 - 1) is)
      (participants_only own.n (me.0 - 1)) e searches (omega arith)

  alone : Fit own start
  unfolding without_wait
  alone =
      idle_fit own me purpose own.count first is.some (omega arith) (begun_zeros own (me.0 - 1) is)
      (search_out own start first refl (rw other) searches)

  search_fit : Fit own (begin_search own me purpose).state
  unfolding begin_search
  search_fit = go (someone others) refl
    where
      go : (t : Bool) → someone others ≡ t → Fit own (pick (someone others) (wait start others) start)
      go true e = subst (λ (t : Bool). Fit own (pick t (wait start others) start)) (sym e) (waiting e)
      go false e = subst (λ (t : Bool). Fit own (pick t (wait start others) start)) (sym e) alone

pub begin_fits : BeginFits
unfolding begin
begin_fits own me purpose is = fits_out own (begin own me purpose).state (go (eqb purpose 2) refl)
  where
    go : (t : Bool) → eqb purpose 2 ≡ t → Fit own (begin own me purpose).state
    go true e = rw e (restart_fit own me purpose is.some e)
    go false e = rw e (search_fit own me purpose is e)

pub first_round : FirstRound
unfolding begin begin_search begin_restart without_wait wait
first_round own me purpose = go (eqb purpose 2) refl (someone (participants own.n (me.0 - 1))) refl
  where
    go : (t : Bool) → eqb purpose 2 ≡ t → (u : Bool) → someone (participants own.n (me.0 - 1)) ≡ u
        → (begin own me purpose).state.rounds ≡ pick (not (eqb purpose 2) && someone (participants own.n (me.0 - 1))) 1 0
    go true e u f = rw e
    go false e true f = rw (e, f)
    go false e false f = rw (e, f)
