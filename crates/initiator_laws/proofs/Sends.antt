-- What the initiator sends: differences, and nothing at the end.
use mathlib.Core.Path.{◌≡◌, refl, sym, ap, ◌∙◌}
use mathlib.Core.Bool.{Bool, true, false, not}
use mathlib.Core.List.{List}
use Prim.Native.Nat.{ℕ, zero, suc, ◌-◌, ◌≤◌, ◌<◌}
use native.Mathlib.Decide.{ℕ_discrete}
use native.Mathlib.Omega.{arith}
use borrow.Author.Tests.{ltb-true, eqb-false, eq-eqb, ne_eqb, not-true}
use lib.Dec.{eqb, ltb}
use Rattle.book.specs.declared.Count.{Count}
use Rattle.book.specs.declared.Process.{Process}
use Rattle.book.specs.Bounds.{mark}
use Rattle.lists.proofs.Tests.{and_both}
use Rattle.lists.specs.Over.{sum_to}
use Rattle.lists.proofs.Over.{get_d_tab, sum_ext}
use Rattle.consistency.specs.Known.{counters}
use Rattle.lists.specs.Pick.{pick}
use Rattle.matrix.specs.Matrix.{entry, row, column, is_pair, not_known_at, not_known_row}
use Rattle.matrix.specs.Statements.{Fallen}
use Rattle.matrix.specs.Entries.{is_news, differing, patch}
use Rattle.matrix.proofs.Rows.{counter_of_row, entry_of_matrix}
use Rattle.matrix.proofs.News.{differing_same, differing_other}
use Rattle.matrix.proofs.Theorems.{patch_diff}
use Rattle.message.specs.Layout.{pair_count}
use Rattle.mail.specs.Outgoing.{message_to}
use Rattle.machine.specs.Own.{Own, sent_row}
use Rattle.machine.specs.Named.{is_participant}
use Rattle.machine.specs.Sends.{no_pairs}
use Rattle.machine.specs.Flags.{participants}
use Rattle.machine_laws.specs.Own.{IsOwn}
use Rattle.machine_laws.proofs.Pairs.{is_pair_lem}
use Rattle.machine_laws.proofs.Rows.{row_ext, row_at, column_at, sent_at}
use Rattle.initiator.specs.Begin.{begin_search}
use Rattle.initiator.specs.Step.{poll, terminate}
use Rattle.initiator_laws.specs.Statements.{PollIsDiff, PollBringsColumn, InvitationIsDiff, TerminationIsEmpty}
use Rattle.initiator_laws.proofs.Begun.{begun, begun_column, search_matrix}

-- ---- polls

pub poll_is_diff : PollIsDiff
unfolding poll
poll_is_diff state p h =
    row_ext (λ k. entry (poll state).outgoing.news p k) (λ k. differing (counters (column state.matrix p) k) (counters (column state.copy p) k))
    (λ k i.
    entry_of_matrix (λ p k. differing (entry state.matrix k p) (entry state.copy k p)) p k h i
    ∙ (ap (λ (v : ℕ). differing v (entry state.copy k p)) (sym (column_at state.matrix k p i))
    ∙ ap (differing (counters (column state.matrix p) k)) (sym (column_at state.copy k p i))))

pub poll_brings_column : PollBringsColumn
poll_brings_column state p h fell =
    ap (patch (column state.copy p)) (poll_is_diff state p h)
    ∙ (patch_diff (column state.matrix p) (column state.copy p) (λ k i. rw (column_at state.matrix k p i, column_at state.copy k p i) (fell k i))
    ∙ row_ext (counters (column state.matrix p)) (λ k. entry state.matrix k p) (λ k i. column_at state.matrix k p i))

-- ---- terminations

pub sum_none : (k : ℕ) → sum_to k (λ p. 0) ≡ 0
unfolding sum_to
sum_none zero = refl
sum_none (suc k) = let ih : sum_to k (λ p. 0) ≡ 0 = sum_none k in omega arith

-- news that says nothing is no pair
pub no_pairs_lem : (news : List Count) → ((p : ℕ) → p < 16 → counters news p ≡ mark) → pair_count news ≡ 0
no_pairs_lem news none =
    sum_ext 16 (λ p. pick (is_news (counters news p)) 1 0) (λ p. 0)
    (λ p i. ap (λ (v : ℕ). pick (is_news v) 1 0) (none p i))
    ∙ sum_none 16

pub termination_is_empty : TerminationIsEmpty
unfolding terminate participants
termination_is_empty state p h = (
  get_d_tab 16 (λ q. is_participant state.n (state.me.0 - 1) q) p false h,
  no_pairs_lem (row no_pairs p) (λ k i. counter_of_row (λ q. entry no_pairs p q) k i ∙ entry_of_matrix (λ p k. mark) p k h i),
)

-- ---- invitations

module _ (own : Own) (me p : ℕ) (is : IsOwn own me) (there : p < own.n) (other : p ≡ me → ⊥) where
  abbrev sent : ℕ
  sent = own.S own.count p

  within : p < 16
  within = omega (arith, is.most)

  pub sent_low : sent < mark
  sent_low = is.below own.count p within is.some (omega arith)

  -- the initiator's entry is not known before
  unknown : not_known_at own.n p me ≡ mark
  unknown = ap (λ (t : Bool). pick t mark 0) (is_pair_lem own.n p me there is.present other)

  -- of the sender's own entry its counter, and of the others nothing: they are not known either way
  invited_at : (k : ℕ) → k < 16 → differing (entry (begun own me) k p) (not_known_at own.n p k) ≡ pick (eqb k me) sent mark
  invited_at k i =
      ap (λ (v : ℕ). differing v (not_known_at own.n p k)) (begun_column own me p k i within)
      ∙ (elim (ℕ_discrete k me) [
        | yes e ↦ rw (e, eq-eqb me me refl, unknown) (differing_other sent mark (λ e. absurd (omega (arith, sent_low))))
        | no ne ↦ rw (ne_eqb k me ne) (differing_same (not_known_at own.n p k) (not_known_at own.n p k) refl)
      ])

  -- and what it tells is lower than what is not known
  pub begun_fallen : Fallen (column (begun own me) p) (not_known_row own.n p)
  begun_fallen k i =
      rw (column_at (begun own me) k p i, counter_of_row (not_known_at own.n p) k i, begun_column own me p k i within)
      (elim (ℕ_discrete k me) [
        | yes e ↦ rw (e, eq-eqb me me refl, unknown) (omega (arith, sent_low), omega arith)
        | no ne ↦ rw (ne_eqb k me ne) (omega arith, most (is_pair own.n p k))
      ])
    where
      most : (t : Bool) → pick t mark 0 ≤ mark
      most true = omega arith
      most false = omega arith

module _ (own : Own) (me : Process) (purpose p : ℕ) (within : p < 16) where
  invitation_entry : (k : ℕ) → k < 16
      → entry (begin_search own me purpose).outgoing.news p k ≡ pick (eqb k (me.0 - 1)) (own.S own.count p) mark
  unfolding begin_search
  invitation_entry k i =
      entry_of_matrix (λ p k. pick (eqb k (me.0 - 1)) (counters (sent_row own own.count) p) mark) p k within i
      ∙ ap (λ (v : ℕ). pick (eqb k (me.0 - 1)) v mark) (sent_at own own.count p within)

  pub invitation_at : (k : ℕ) → k < 16
      → counters (message_to (begin_search own me purpose).outgoing p).news k ≡ pick (eqb k (me.0 - 1)) (own.S own.count p) mark
  invitation_at k i = row_at (begin_search own me purpose).outgoing.news p k i ∙ invitation_entry k i

pub invitation_is_diff : InvitationIsDiff
invitation_is_diff own me purpose p is part =
    let b = and_both (ltb p own.n) (not (eqb p (me.0 - 1))) part in
    let there : p < own.n = ltb-true p own.n b.0 in
    let other : (p ≡ me.0 - 1 → ⊥) = eqb-false p (me.0 - 1) (not-true (eqb p (me.0 - 1)) b.1) in
    row_ext (λ k. entry (begin_search own me purpose).outgoing.news p k)
    (λ k. differing (counters (column (begin_search own me purpose).state.matrix p) k) (counters (not_known_row own.n p) k))
    (λ k i.
    invitation_entry own me purpose p (omega (arith, is.most)) k i
    ∙ (sym (invited_at own (me.0 - 1) p is there other k i)
    ∙ (ap (λ (v : ℕ). differing v (not_known_at own.n p k))
    (sym (ap (λ (l : List Count). counters (column l p) k) (search_matrix own me purpose) ∙ column_at (begun own (me.0 - 1)) k p i))
    ∙ ap (differing (counters (column (begin_search own me purpose).state.matrix p) k)) (sym (counter_of_row (λ q. not_known_at own.n p q) k i)))))
