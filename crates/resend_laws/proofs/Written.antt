-- The entries that a list writes, from the first channel to the last and from the last back: how they begin, how many there are, and that
-- they pass their questions.
use mathlib.Core.Path.{◌≡◌, refl, sym, ap, ◌∙◌}
use mathlib.Core.Bool.{Bool, true, false}
use mathlib.Core.List.{List, [], ◌∷◌, ◌++◌, append-nil, append_assoc}
use Prim.Native.Nat.{ℕ, zero, suc, ◌+◌, ◌*◌, ◌/◌, ◌%◌, ◌≤◌, ◌<◌}
use native.Mathlib.Nat.{add-zero}
use native.Mathlib.Decide.{dec_le}
use native.Mathlib.Omega.{arith}
use borrow.Author.Tests.{eqb-true, eqb-false, not-true, not-false, eq-eqb}
use lib.ListN.{length, length-append}
use lib.Dec.{eqb}
use Rattle.book.specs.Bounds.{largest}
use Rattle.book.proofs.Questions.{then_both}
use Rattle.lists.specs.Over.{sum_to}
use Rattle.lists.specs.Pick.{pick}
use Rattle.resend.specs.Layout.{has_entry, one_entry, entries_to, entry_count_to}
use Rattle.resend.specs.Questions.{entry_question, entries_question}
use Rattle.resend.proofs.Entries.{asked_done, asked_more, written_none, written_more}
use Rattle.resend_laws.specs.Lists.{IsEntry}
use Rattle.resend_laws.proofs.Asked.{AtMost, most_cons, behind, IsBehind, Entry, entry_out}

-- ---- is there an entry?

pub no_entry : (v : ℕ) → has_entry v ≡ false → v ≡ 0
no_entry v h = eqb-true v 0 (not-false (eqb v 0) h)

entry_some : (v : ℕ) → has_entry v ≡ true → 1 ≤ v
entry_some v h = let ne = eqb-false v 0 (not-true (eqb v 0) h) in omega arith

pub zero_none : (v : ℕ) → v ≡ 0 → has_entry v ≡ false
zero_none v e = rw (eq-eqb v 0 e)

pub some_has : (v : ℕ) → 1 ≤ v → has_entry v ≡ true
some_has v h = go (has_entry v) refl
  where
    go : (t : Bool) → has_entry v ≡ t → has_entry v ≡ true
    go true e = e
    go false e = absurd (omega (arith, no_entry v e))

-- ---- one channel more

module _ (f l : ℕ → ℕ) where
  to_none : (k : ℕ) → has_entry (f k) ≡ false → entries_to (suc k) f l ≡ entries_to k f l
  to_none k e = written_more f l k ∙ rw e (append-nil (entries_to k f l))

  pub to_some : (k : ℕ) → has_entry (f k) ≡ true
      → entries_to (suc k) f l ≡ entries_to k f l ++ suc (k / 16) ∷ suc (k % 16) ∷ f k ∷ l k ∷ []
  to_some k e = written_more f l k ∙ rw e

  -- four numbers for each entry
  pub to_length : (k : ℕ) → length (entries_to k f l) ≡ 4 * entry_count_to k f
  unfolding entries_to sum_to
  to_length zero = refl
  to_length (suc k) = go (has_entry (f k)) refl (to_length k)
    where
      go : (t : Bool) → has_entry (f k) ≡ t → length (entries_to k f l) ≡ 4 * entry_count_to k f
          → length (entries_to k f l ++ one_entry (has_entry (f k)) k (f k) (l k)) ≡ 4 * (entry_count_to k f + pick (has_entry (f k)) 1 0)
      go true e ih = rw e (length-append (entries_to k f l) (suc (k / 16) ∷ suc (k % 16) ∷ f k ∷ l k ∷ []) ∙ omega arith)
      go false e ih = rw (e, append-nil (entries_to k f l)) (omega arith)

  -- no entries where no channel has one
  pub to_stay : (k m : ℕ) → k ≤ m → ((i : ℕ) → k ≤ i → i < m → f i ≡ 0) → entries_to m f l ≡ entries_to k f l
  to_stay k zero h none = let e : k ≡ 0 = omega arith in rw e
  to_stay k (suc m) h none =
      elim (dec_le k m) [
        | yes le ↦ to_none m (zero_none (f m) (none m le (omega arith))) ∙ to_stay k m le (λ i a b. none i a (omega arith))
        | no gt ↦ let e : k ≡ suc m = omega arith in rw e
      ]

pub to_ext : (k : ℕ) (f g l m : ℕ → ℕ) → ((i : ℕ) → i < k → (f i ≡ g i) × (l i ≡ m i)) → entries_to k f l ≡ entries_to k g m
unfolding entries_to
to_ext zero f g l m same = refl
to_ext (suc k) f g l m same =
    rw (to_ext k f g l m (λ i h. same i (omega arith)), (same k (omega arith)).0, (same k (omega arith)).1)

-- ---- from the front

-- the entries of k channels from place i on, and how many they are
unfoldable pub entries_from : ℕ → ℕ → (ℕ → ℕ) → (ℕ → ℕ) → List ℕ
entries_from i zero f l = []
entries_from i (suc k) f l = one_entry (has_entry (f i)) i (f i) (l i) ++ entries_from (suc i) k f l

unfoldable pub count_from : ℕ → ℕ → (ℕ → ℕ) → ℕ
count_from i zero f = 0
count_from i (suc k) f = pick (has_entry (f i)) 1 0 + count_from (suc i) k f

module _ (f l : ℕ → ℕ) where
  to_from : (k i : ℕ) → entries_to (i + k) f l ≡ entries_to i f l ++ entries_from i k f l
  unfolding entries_from
  to_from zero i = rw (add-zero i) (sym (append-nil (entries_to i f l)))
  to_from (suc k) i =
      let e : i + suc k ≡ suc i + k = omega arith in
      let one : List ℕ = one_entry (has_entry (f i)) i (f i) (l i) in
      rw e
      (to_from k (suc i)
      ∙ (ap (λ (before : List ℕ). before ++ entries_from (suc i) k f l) (written_more f l i)
      ∙ append_assoc (entries_to i f l) one (entries_from (suc i) k f l)))

  count_from_lem : (k i : ℕ) → entry_count_to (i + k) f ≡ entry_count_to i f + count_from i k f
  unfolding count_from sum_to
  count_from_lem zero i = rw (add-zero i) (omega arith)
  count_from_lem (suc k) i = let e : i + suc k ≡ suc i + k = omega arith in rw e (count_from_lem k (suc i) ∙ omega arith)

  -- all of them
  pub all_from : (k : ℕ) → entries_to k f l ≡ entries_from 0 k f l
  all_from k = let e : 0 + k ≡ k = omega arith in rw (e, written_none f l) at (to_from k 0)

  pub all_count : (k : ℕ) → entry_count_to k f ≡ count_from 0 k f
  unfolding sum_to
  all_count k = let e : 0 + k ≡ k = omega arith in let whole = rw e at (count_from_lem k 0) in whole ∙ omega arith

  module _ (i k : ℕ) where
    pub from_none : has_entry (f i) ≡ false
        → (entries_from i (suc k) f l ≡ entries_from (suc i) k f l) × (count_from i (suc k) f ≡ count_from (suc i) k f)
    unfolding entries_from count_from
    from_none e = (rw e, rw e (omega arith))

    pub from_some : has_entry (f i) ≡ true
        → (entries_from i (suc k) f l ≡ suc (i / 16) ∷ suc (i % 16) ∷ f i ∷ l i ∷ entries_from (suc i) k f l)
        × (count_from i (suc k) f ≡ suc (count_from (suc i) k f))
    unfolding entries_from count_from
    from_some e = (rw e, rw e (omega arith))

-- ---- entries of a list among n processes

module _ (n : ℕ) (few : n ≤ 16) (f l : ℕ → ℕ) (some : (i : ℕ) → i < 256 → has_entry (f i) ≡ true → IsEntry n i (f i) (l i)) where
  entry_at : (i place : ℕ) → i < 256 → place ≤ i → has_entry (f i) ≡ true → Entry n place (suc (i / 16)) (suc (i % 16)) (f i) (l i)
  entry_at i place h after e =
      let is = some i h e in
      record {
        rising = omega arith;
        from = (omega arith, omega (arith, is.sender));
        to = (omega arith, omega (arith, is.receiver));
        other = λ same. is.other (omega arith);
        some = entry_some (f i) e;
        ordered = is.rising;
      }

  -- they pass their questions
  pub from_passes : (k i s r : ℕ) → i + k ≡ 256 → IsBehind s r → behind s r ≤ i
      → entries_question n s r (count_from i k f) true (entries_from i k f l) ≡ 0
  unfolding entries_from count_from
  from_passes zero i s r all at after = asked_done n s r true []
  from_passes (suc k) i s r all at after = go (has_entry (f i)) refl (from_passes k (suc i))
    where
      rest : List ℕ
      rest = entries_from (suc i) k f l

      go : (t : Bool) → has_entry (f i) ≡ t
          → ((s r : ℕ) → suc i + k ≡ 256 → IsBehind s r → behind s r ≤ suc i → entries_question n s r (count_from (suc i) k f) true rest ≡ 0)
          → entries_question n s r (count_from i (suc k) f) true (entries_from i (suc k) f l) ≡ 0
      go false e ih =
          let same = from_none f l i k e in
          rw (same.0, same.1) (ih s r (omega arith) at (omega arith))
      go true e ih =
          let same = from_some f l i k e in
          let a : ℕ = suc (i / 16) in
          let b : ℕ = suc (i % 16) in
          rw (same.0, same.1)
          (asked_more n s r true (count_from (suc i) k f) a b (f i) (l i) rest
          ∙ then_both (entry_question n s r a b (f i) (l i)) (λ _. entries_question n a b (count_from (suc i) k f) true rest)
          (entry_out n s r a b (f i) (l i) few at (entry_at i (behind s r) (omega arith) after e))
          (ih a b (omega arith) (record { most = omega arith; both = omega arith }) (omega arith)))

  -- none of their numbers is too large
  pub from_most : (k i : ℕ) → i + k ≡ 256 → AtMost largest (entries_from i k f l)
  unfolding entries_from
  from_most zero i all = λ j h. absurd (omega arith)
  from_most (suc k) i all = go (has_entry (f i)) refl (from_most k (suc i) (omega arith))
    where
      rest : List ℕ
      rest = entries_from (suc i) k f l

      go : (t : Bool) → has_entry (f i) ≡ t → AtMost largest rest → AtMost largest (entries_from i (suc k) f l)
      go false e ih = rw (from_none f l i k e).0 ih
      go true e ih =
          let is = some i (omega arith) e in
          rw (from_some f l i k e).0
          (most_cons largest (suc (i / 16)) (suc (i % 16) ∷ f i ∷ l i ∷ rest) (omega arith)
          (most_cons largest (suc (i % 16)) (f i ∷ l i ∷ rest) (omega arith)
          (most_cons largest (f i) (l i ∷ rest) (omega (arith, is.rising, is.most)) (most_cons largest (l i) rest is.most ih))))
