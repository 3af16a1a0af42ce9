-- One process's counts over the events and one more: an event changes those of the process that it names, and nobody else's.
use mathlib.Core.Path.{◌≡◌, refl, sym, ap, ◌∙◌}
use mathlib.Core.Bool.{Bool, true, false}
use mathlib.Core.List.{List, [], ◌∷◌, ◌++◌}
use Prim.Native.Nat.{ℕ, suc, ◌+◌, ◌-◌, ◌≤◌, ◌<◌}
use native.Mathlib.Nat.{add-zero}
use native.Mathlib.Decide.{ℕ_discrete}
use native.Mathlib.Omega.{arith}
use borrow.Author.Tests.{eq-eqb, ne_eqb}
use lib.ListN.{length, get_or, set, length-set}
use lib.Seq.{get_or-set_same, get_or-set_other}
use lib.Dec.{eqb}
use Rattle.lists.specs.Pick.{pick}
use Rattle.lists.specs.Over.{tab}
use Rattle.lists.proofs.Over.{get_d_tab, tab_is, tab_same, tab_stored}
use Rattle.book.specs.Bounds.{most_processes}
use Rattle.journal.specs.declared.Event.{Event}
use Rattle.journal.specs.declared.Event.TheVariants.{Sent, Received, Checkpointed}
use Rattle.journal.specs.declared.counts.Counts.{Counts}
use Rattle.journal.specs.Counting.{how_many, is_sending, is_receipt, is_checkpoint, checkpoint_count}
use Rattle.journal.specs.Running.{process_of, one_more, counts_after, counts_next, counts_over}
use Rattle.journal.proofs.Counting.{pair_yes, pair_no, one_more_lem, no_more}
use Rattle.journal.proofs.Passed.{PartnerFits}

-- ---- an event of another process

module _ (j : ℕ) where
  other_sending : (p : ℕ) (e : Event) → (process_of e ≡ j → ⊥) → is_sending j p e ≡ false
  other_sending p (Sent process partner) ne = pair_no process.0 partner.0 j p (λ e _. ne e)
  other_sending p (Received process partner) ne = refl
  other_sending p (Checkpointed process) ne = refl

  other_receipt : (p : ℕ) (e : Event) → (process_of e ≡ j → ⊥) → is_receipt j p e ≡ false
  other_receipt p (Sent process partner) ne = refl
  other_receipt p (Received process partner) ne = pair_no process.0 partner.0 j p (λ e _. ne e)
  other_receipt p (Checkpointed process) ne = refl

  pub other_checkpoint : (e : Event) → (process_of e ≡ j → ⊥) → is_checkpoint j e ≡ false
  other_checkpoint (Sent process partner) ne = refl
  other_checkpoint (Received process partner) ne = refl
  other_checkpoint (Checkpointed process) ne = ne_eqb process.0 j ne

-- ---- what an event leaves of a process's counts

module _ (j : ℕ) (e : Event) (c : Counts) where
  pub next_own : process_of e ≡ j → counts_after e c ≡ counts_next j e c
  next_own own = rw (eq-eqb (process_of e) j own)

  pub next_other : (process_of e ≡ j → ⊥) → c ≡ counts_next j e c
  next_other other = rw (ne_eqb (process_of e) j other)

-- ---- sixteen partners

-- one added at a partner's place, which counts from 0, and nothing at the others
pub one_added : (l : List ℕ) (p : ℕ) → length l ≡ most_processes → p < most_processes
    → tab most_processes (λ i. get_or l i 0 + pick (eqb i p) 1 0) ≡ one_more (p + 1) l
one_added l p long h =
    let back : p ≡ p + 1 - 1 = omega arith in
    sym (tab_is 0 most_processes (λ i. get_or l i 0 + pick (eqb i p) 1 0) (set l p (get_or l p 0 + 1)) (length-set l p _ ∙ long) at_each)
    ∙ ap (λ (k : ℕ). set l k (get_or l k 0 + 1)) back
  where
    at_each : (i : ℕ) → i < most_processes → get_or (set l p (get_or l p 0 + 1)) i 0 ≡ get_or l i 0 + pick (eqb i p) 1 0
    at_each i m =
        elim (ℕ_discrete i p) [
          | yes e ↦ rw (e, eq-eqb p p refl) (get_or-set_same l p (get_or l p 0 + 1) 0 (omega (arith, long)))
          | no ne ↦ rw (ne_eqb i p ne) (get_or-set_other l p i (get_or l p 0 + 1) 0 ne ∙ sym (add-zero (get_or l i 0)))
        ]

-- one event more for a partner, and for no other
raised : (such : ℕ → Event → Bool) (es : List Event) (e : Event) (p : ℕ) → 1 ≤ p → p ≤ most_processes → such p e ≡ true
    → ((q : ℕ) → (p ≡ q → ⊥) → such q e ≡ false)
    → tab most_processes (λ q. how_many (such (suc q)) (es ++ e ∷ [])) ≡ one_more p (tab most_processes (λ q. how_many (such (suc q)) es))
raised such es e p some few is others =
    let f : ℕ → ℕ = λ q. how_many (such (suc q)) es in
    let back : suc (p - 1) ≡ p = omega arith in
    sym
    (tab_stored 0 most_processes f (λ q. how_many (such (suc q)) (es ++ e ∷ [])) (p - 1) (get_or (tab most_processes f) (p - 1) 0 + 1)
    (omega arith)
    (ap (λ (k : ℕ). k + 1) (get_d_tab most_processes f (p - 1) 0 (omega arith))
    ∙ sym (one_more_lem (such (suc (p - 1))) es e (ap (λ (q : ℕ). such q e) back ∙ is)))
    (λ q h ne. sym (no_more (such (suc q)) es e (others (suc q) (λ m. ne (omega arith))))))

-- for none
kept : (such : ℕ → Event → Bool) (es : List Event) (e : Event) → ((q : ℕ) → such q e ≡ false)
    → tab most_processes (λ q. how_many (such (suc q)) (es ++ e ∷ [])) ≡ tab most_processes (λ q. how_many (such (suc q)) es)
kept such es e none =
    tab_same most_processes most_processes (λ q. how_many (such (suc q)) (es ++ e ∷ [])) (λ q. how_many (such (suc q)) es) refl
    (λ q h. no_more (such (suc q)) es e (none (suc q)))

-- ---- the counts

-- one checkpoint more, or none
pub one_checkpoint : (j : ℕ) (es : List Event) (e : Event) → is_checkpoint j e ≡ true → checkpoint_count j (es ++ e ∷ []) ≡ checkpoint_count j es + 1
one_checkpoint j es e is = ap (λ (k : ℕ). 1 + k) (one_more_lem (is_checkpoint j) es e is) ∙ omega arith

pub same_checkpoints : (j : ℕ) (es : List Event) (e : Event) → is_checkpoint j e ≡ false → checkpoint_count j (es ++ e ∷ []) ≡ checkpoint_count j es
same_checkpoints j es e is = ap (λ (k : ℕ). 1 + k) (no_more (is_checkpoint j) es e is)

-- the same parts
counts_as : {s s' r r' : List ℕ} {k k' : ℕ} → s ≡ s' → r ≡ r' → k ≡ k'
    → ◌≡◌ {A = Counts} (record { sent = s; received = r; checkpoints = k }) (record { sent = s'; received = r'; checkpoints = k' })
counts_as a b c = cc

module _ (es : List Event) where
  pub counts_stay : (j : ℕ) (e : Event) → (process_of e ≡ j → ⊥) → counts_over j (es ++ e ∷ []) ≡ counts_over j es
  counts_stay j e ne =
      counts_as (kept (is_sending j) es e (λ q. other_sending j q e ne)) (kept (is_receipt j) es e (λ q. other_receipt j q e ne))
      (same_checkpoints j es e (other_checkpoint j e ne))

  pub counts_change : (e : Event) → PartnerFits e → counts_over (process_of e) (es ++ e ∷ []) ≡ counts_after e (counts_over (process_of e) es)
  counts_change (Sent process partner) (some, few) =
      let j : ℕ = process.0 in
      let e : Event = Sent process partner in
      counts_as
      (raised (is_sending j) es e partner.0 some few (pair_yes j partner.0 j partner.0 refl refl) (λ q ne. pair_no j partner.0 j q (λ _ f. ne f)))
      (kept (is_receipt j) es e (λ q. refl)) (same_checkpoints j es e refl)
  counts_change (Received process partner) (some, few) =
      let j : ℕ = process.0 in
      let e : Event = Received process partner in
      counts_as (kept (is_sending j) es e (λ q. refl))
      (raised (is_receipt j) es e partner.0 some few (pair_yes j partner.0 j partner.0 refl refl) (λ q ne. pair_no j partner.0 j q (λ _ f. ne f)))
      (same_checkpoints j es e refl)
  counts_change (Checkpointed process) fits =
      let j : ℕ = process.0 in
      let e : Event = Checkpointed process in
      counts_as (kept (is_sending j) es e (λ q. refl)) (kept (is_receipt j) es e (λ q. refl)) (one_checkpoint j es e (eq-eqb j j refl))
