-- The pairs of a row of news, and the row that pairs make: each gives the other back.
-- Assumes nothing.
use mathlib.Core.Path.{◌≡◌, refl, sym, ap, ◌∙◌}
use mathlib.Core.Bool.{true}
use mathlib.Core.List.{List, [], ◌∷◌, ◌++◌, append-nil, append_assoc}
use Prim.Native.Nat.{ℕ, zero, suc, ◌-◌, ◌*◌, ◌≤◌, ◌<◌}
use native.Mathlib.Decide.{dec_le, ℕ_discrete}
use native.Mathlib.Omega.{arith}
use borrow.Author.Tests.{eq-eqb, ne_eqb}
use lib.ListN.{length, set, length-set, length-append}
use lib.Seq.{get_or-set_same, get_or-set_other}
use Rattle.book.specs.declared.Count.{Count}
use Rattle.book.specs.Bounds.{mark}
use Rattle.lists.specs.Over.{sum_to}
use Rattle.consistency.specs.Known.{counters}
use Rattle.matrix.proofs.Rows.{row_is, row_length, counter_of_row}
use Rattle.message.specs.Layout.{pairs_to, pair_count_to, no_news}
use Rattle.message.specs.Formed.{pairs_formed, news_in}
use Rattle.message_laws.proofs.Pairs.{Pair, formed_none, formed_induction, formed_wider, formed_snoc, formed_length}

-- ---- the pairs of the first k entries

pairs_same : (k : ℕ) (f : ℕ → ℕ) → f k ≡ mark → pairs_to (suc k) f ≡ pairs_to k f
unfolding pairs_to
pairs_same k f e = rw (eq-eqb (f k) mark e) (append-nil (pairs_to k f))

pairs_more : (k : ℕ) (f : ℕ → ℕ) → (f k ≡ mark → ⊥) → pairs_to (suc k) f ≡ pairs_to k f ++ suc k ∷ f k ∷ []
unfolding pairs_to
pairs_more k f ne = rw (ne_eqb (f k) mark ne)

count_same : (k : ℕ) (f : ℕ → ℕ) → f k ≡ mark → pair_count_to (suc k) f ≡ pair_count_to k f
unfolding sum_to
count_same k f e = rw (eq-eqb (f k) mark e) (omega arith)

count_more : (k : ℕ) (f : ℕ → ℕ) → (f k ≡ mark → ⊥) → pair_count_to (suc k) f ≡ suc (pair_count_to k f)
unfolding sum_to
count_more k f ne = rw (ne_eqb (f k) mark ne) (omega arith)

pairs_ext : (k : ℕ) (f g : ℕ → ℕ) → ((i : ℕ) → i < k → f i ≡ g i) → pairs_to k f ≡ pairs_to k g
unfolding pairs_to
pairs_ext zero f g h = refl
pairs_ext (suc k) f g h = rw (pairs_ext k f g (λ i m. h i (omega arith)), h k (omega arith))

-- no pairs where the marks stand
pairs_stay : (k m : ℕ) (f : ℕ → ℕ) → k ≤ m → ((i : ℕ) → k ≤ i → i < m → f i ≡ mark) → pairs_to m f ≡ pairs_to k f
pairs_stay k zero f h marks = let e : k ≡ 0 = omega arith in rw e
pairs_stay k (suc m) f h marks =
    elim (dec_le k m) [
      | yes l ↦ pairs_same m f (marks m l (omega arith)) ∙ pairs_stay k m f l (λ i a b. marks i a (omega arith))
      | no l ↦ let e : k ≡ suc m = omega arith in rw e
    ]

-- two numbers for each pair
pairs_length : (k : ℕ) (f : ℕ → ℕ) → length (pairs_to k f) ≡ 2 * pair_count_to k f
unfolding pairs_to sum_to
pairs_length zero f = refl
pairs_length (suc k) f =
    let ih : length (pairs_to k f) ≡ 2 * pair_count_to k f = pairs_length k f in
    elim (ℕ_discrete (f k) mark) [
      | yes e ↦ rw (pairs_same k f e, count_same k f e) ih
      | no ne ↦ rw (pairs_more k f ne, count_more k f ne, length-append (pairs_to k f) (suc k ∷ f k ∷ [])) (omega arith)
    ]

-- ---- they are formed

-- a counter, or the mark; a counter only of a process from 1 to n that is not that participant
pub record Entry (n end p v : ℕ) : Type 0 where
  pub most : v ≤ mark
  pub named : v < mark → (p < n) × (suc p ≡ end → ⊥)

pairs_formed_lem : (n end k : ℕ) (f : ℕ → ℕ) → ((p : ℕ) → p < k → Entry n end p (f p))
    → pairs_formed k end 0 (pair_count_to k f) (pairs_to k f) ≡ true
unfolding pairs_to sum_to
pairs_formed_lem n end zero f h = formed_none 0 end 0
pairs_formed_lem n end (suc k) f h =
    let ih : pairs_formed k end 0 (pair_count_to k f) (pairs_to k f) ≡ true = pairs_formed_lem n end k f (λ p m. h p (omega arith)) in
    elim (ℕ_discrete (f k) mark) [
      | yes e ↦
          rw (pairs_same k f e, count_same k f e) (formed_wider k (suc k) end 0 (pair_count_to k f) (pairs_to k f) (omega arith) ih)
      | no ne ↦
          let entry : Entry n end k (f k) = h k (omega arith) in
          let known : f k < mark = omega (arith, entry.most) in
          let pair : Pair (suc k) end 0 (suc k) (f k)
          = record { rising = omega arith; most = omega arith; other = (entry.named known).1; known = known } in
          rw (pairs_more k f ne, count_more k f ne)
          (formed_snoc k (suc k) end 0 (pair_count_to k f) (suc k) (f k) (pairs_to k f) (omega arith) pair ih)
    ]

-- the pairs of all sixteen entries
pub row_formed : (n end : ℕ) (f : ℕ → ℕ) → n ≤ 16 → ((p : ℕ) → p < 16 → Entry n end p (f p))
    → pairs_formed n end 0 (pair_count_to 16 f) (pairs_to 16 f) ≡ true
row_formed n end f few h =
    let same : pairs_to 16 f ≡ pairs_to n f = pairs_stay n 16 f few marks in
    let count : pair_count_to 16 f ≡ pair_count_to n f = omega (arith, pairs_length 16 f, pairs_length n f, ap length same) in
    rw (same, count) (pairs_formed_lem n end n f (λ p m. h p (omega arith)))
  where
    marks : (i : ℕ) → n ≤ i → i < 16 → f i ≡ mark
    marks i a b =
        elim (dec_le mark (f i)) [
          | yes l ↦ omega (arith, (h i b).most)
          | no l ↦ absurd (omega (arith, ((h i b).named (omega arith)).0))
        ]

-- ---- a row with one entry set

set_here : (l : List Count) (q : ℕ) (v : Count) → q < length l → counters (set l q v) q ≡ v.0
set_here l q v h = ap (λ (r : Count). r.0) (get_or-set_same l q v (record { 0 = 0 }) h)

set_there : (l : List Count) (q i : ℕ) (v : Count) → (i ≡ q → ⊥) → counters (set l q v) i ≡ counters l i
set_there l q i v ne = ap (λ (r : Count). r.0) (get_or-set_other l q i v (record { 0 = 0 }) ne)

-- ---- the row that pairs make

news_pair : (news : List Count) (q v : ℕ) (xs : List ℕ) → news_in news (suc q ∷ v ∷ xs) ≡ news_in (set news q (record { 0 = v })) xs
unfolding news_in
news_pair news q v xs = let e : suc q - 1 ≡ q = omega arith in rw e

news_append : (n end last count : ℕ) (xs zs : List ℕ) (news : List Count) → pairs_formed n end last count xs ≡ true
    → news_in news (xs ++ zs) ≡ news_in (news_in news xs) zs
unfolding news_in
news_append n end last count xs zs news h =
    formed_induction n end (λ l c ys. (row : List Count) → news_in row (ys ++ zs) ≡ news_in (news_in row ys) zs) (λ l row. refl)
    (λ l c p v ys pair ih row. ih (set row (p - 1) (record { 0 = v })))
    last count xs h news

-- the first k entries are those of f, the others the mark
record Told (f : ℕ → ℕ) (k : ℕ) (l : List Count) : Type 0 where
  long : length l ≡ 16
  before : (i : ℕ) → i < k → counters l i ≡ f i
  after : (i : ℕ) → k ≤ i → i < 16 → counters l i ≡ mark

told_none : (f : ℕ → ℕ) → Told f 0 no_news
told_none f =
    record {
      long = row_length (λ p. mark);
      before = λ i h. absurd (omega arith);
      after = λ i a b. counter_of_row (λ p. mark) i b;
    }

told_same : (f : ℕ → ℕ) (k : ℕ) (l : List Count) → k < 16 → f k ≡ mark → Told f k l → Told f (suc k) l
told_same f k l h e told =
    record {
      long = told.long;
      before = λ i m. elim (ℕ_discrete i k) [
        | yes q ↦ rw q (told.after k (omega arith) h ∙ sym e)
        | no ne ↦ told.before i (omega arith)
      ];
      after = λ i a b. told.after i (omega arith) b;
    }

told_more : (f : ℕ → ℕ) (k : ℕ) (l : List Count) → k < 16 → Told f k l → Told f (suc k) (set l k (record { 0 = f k }))
told_more f k l h told =
    let v : Count = record { 0 = f k } in
    record {
      long = length-set l k v ∙ told.long;
      before = λ i m. elim (ℕ_discrete i k) [
        | yes q ↦ rw q (set_here l k v (omega (arith, told.long)))
        | no ne ↦ set_there l k i v ne ∙ told.before i (omega arith)
      ];
      after = λ i a b. set_there l k i v (λ e. absurd (omega arith)) ∙ told.after i (omega arith) b;
    }

told_pairs : (n end k : ℕ) (f : ℕ → ℕ) → k ≤ 16 → ((p : ℕ) → p < k → Entry n end p (f p))
    → Told f k (news_in no_news (pairs_to k f))
unfolding pairs_to news_in
told_pairs n end zero f few h = told_none f
told_pairs n end (suc k) f few h =
    let below : (p : ℕ) → p < k → Entry n end p (f p) = λ p m. h p (omega arith) in
    let row : List Count = news_in no_news (pairs_to k f) in
    let ih : Told f k row = told_pairs n end k f (omega arith) below in
    elim (ℕ_discrete (f k) mark) [
      | yes e ↦ rw (pairs_same k f e) (told_same f k row (omega arith) e ih)
      | no ne ↦
          let apart : news_in no_news (pairs_to k f ++ suc k ∷ f k ∷ []) ≡ set row k (record { 0 = f k })
          = news_append k end 0 (pair_count_to k f) (pairs_to k f) (suc k ∷ f k ∷ []) no_news (pairs_formed_lem n end k f below)
          ∙ news_pair row k (f k) [] in
          rw (pairs_more k f ne, apart) (told_more f k row (omega arith) ih)
    ]

-- the pairs of a row make the row
pub news_of_pairs : (n end : ℕ) (news : List Count) → length news ≡ 16 → ((p : ℕ) → p < 16 → Entry n end p (counters news p))
    → news_in no_news (pairs_to 16 (counters news)) ≡ news
news_of_pairs n end news long h =
    let told = told_pairs n end 16 (counters news) (omega arith) h in
    row_is (counters news) (news_in no_news (pairs_to 16 (counters news))) told.long told.before
    ∙ sym (row_is (counters news) news long (λ p m. refl))

-- ---- and back

-- the pairs of a row that formed pairs have changed: the row was empty from the process of the pair before on
changed_pairs : (n end last count : ℕ) (xs : List ℕ) (news : List Count) → n ≤ 16 → pairs_formed n end last count xs ≡ true
    → length news ≡ 16 → last ≤ 16 → ((i : ℕ) → last ≤ i → i < 16 → counters news i ≡ mark)
    → pairs_to 16 (counters (news_in news xs)) ≡ pairs_to last (counters news) ++ xs
unfolding news_in
changed_pairs n end last count xs news few h =
    formed_induction n end
    (λ l c ys. (row : List Count) → length row ≡ 16 → l ≤ 16 → ((i : ℕ) → l ≤ i → i < 16 → counters row i ≡ mark)
    → pairs_to 16 (counters (news_in row ys)) ≡ pairs_to l (counters row) ++ ys)
    (λ l row long within marks. pairs_stay l 16 (counters row) within marks ∙ sym (append-nil (pairs_to l (counters row))))
    (λ l c p v ys pair ih row long within marks. more l p v ys pair ih row long marks)
    last count xs h news
  where
    more : (l p v : ℕ) (ys : List ℕ) → Pair n end l p v
        → ((row : List Count) → length row ≡ 16 → p ≤ 16 → ((i : ℕ) → p ≤ i → i < 16 → counters row i ≡ mark)
        → pairs_to 16 (counters (news_in row ys)) ≡ pairs_to p (counters row) ++ ys)
        → (row : List Count) → length row ≡ 16 → ((i : ℕ) → l ≤ i → i < 16 → counters row i ≡ mark)
        → pairs_to 16 (counters (news_in row (p ∷ v ∷ ys))) ≡ pairs_to l (counters row) ++ p ∷ v ∷ ys
    more l zero v ys pair ih row long marks = absurd (omega (arith, pair.rising))
    more l (suc q) v ys pair ih row long marks =
        let next : List Count = set row q (record { 0 = v }) in
        let here : counters next q ≡ v = set_here row q (record { 0 = v }) (omega (arith, pair.most)) in
        let before : pairs_to q (counters next) ≡ pairs_to l (counters row)
        = pairs_ext q (counters next) (counters row) (λ i m. set_there row q i (record { 0 = v }) (λ e. absurd (omega arith)))
        ∙ pairs_stay l q (counters row) (omega (arith, pair.rising)) (λ i a b. marks i a (omega (arith, pair.most))) in
        let both : pairs_to (suc q) (counters next) ≡ pairs_to l (counters row) ++ suc q ∷ v ∷ []
        = pairs_more q (counters next) (λ e. absurd (omega (arith, here, pair.known))) ∙ rw (before, here) in
        ap (λ (r : List Count). pairs_to 16 (counters r)) (news_pair row q v ys)
        ∙ (ih next (length-set row q (record { 0 = v }) ∙ long) (omega (arith, pair.most))
        (λ i a b. set_there row q i (record { 0 = v }) (λ e. absurd (omega arith)) ∙ marks i (omega (arith, pair.rising)) b)
        ∙ (ap (λ (zs : List ℕ). zs ++ ys) both ∙ append_assoc (pairs_to l (counters row)) (suc q ∷ v ∷ []) ys))

-- formed pairs are those of the row that they make, and so is their count
pub pairs_of_news : (n end count : ℕ) (xs : List ℕ) → n ≤ 16 → pairs_formed n end 0 count xs ≡ true
    → (pairs_to 16 (counters (news_in no_news xs)) ≡ xs) × (pair_count_to 16 (counters (news_in no_news xs)) ≡ count)
unfolding pairs_to
pairs_of_news n end count xs few h =
    let told = told_none (λ p. mark) in
    let same : pairs_to 16 (counters (news_in no_news xs)) ≡ xs
    = changed_pairs n end 0 count xs no_news few h told.long (omega arith) told.after in
    (same, omega (arith, pairs_length 16 (counters (news_in no_news xs)), ap length same, formed_length n end 0 count xs h))

news_length : (n end last count : ℕ) (xs : List ℕ) (news : List Count) → pairs_formed n end last count xs ≡ true
    → length (news_in news xs) ≡ length news
unfolding news_in
news_length n end last count xs news h =
    formed_induction n end (λ l c ys. (row : List Count) → length (news_in row ys) ≡ length row) (λ l row. refl)
    (λ l c p v ys pair ih row. ih (set row (p - 1) (record { 0 = v })) ∙ length-set row (p - 1) (record { 0 = v }))
    last count xs h news

-- formed pairs make such entries only
news_entries : (n end last count : ℕ) (xs : List ℕ) (news : List Count) → pairs_formed n end last count xs ≡ true
    → n ≤ length news → ((i : ℕ) → i < length news → Entry n end i (counters news i))
    → (i : ℕ) → i < length news → Entry n end i (counters (news_in news xs) i)
unfolding news_in
news_entries n end last count xs news h =
    formed_induction n end
    (λ l c ys. (row : List Count) → n ≤ length row → ((i : ℕ) → i < length row → Entry n end i (counters row i))
    → (i : ℕ) → i < length row → Entry n end i (counters (news_in row ys) i))
    (λ l row few all. all)
    (λ l c p v ys pair ih row few all i m.
    let long : length (set row (p - 1) (record { 0 = v })) ≡ length row = length-set row (p - 1) (record { 0 = v }) in
    ih (set row (p - 1) (record { 0 = v })) (omega arith) (λ j b. more l p v pair row few all j (omega arith)) i (omega arith))
    last count xs h news
  where
    more : (l p v : ℕ) → Pair n end l p v → (row : List Count) → n ≤ length row → ((i : ℕ) → i < length row → Entry n end i (counters row i))
        → (i : ℕ) → i < length row → Entry n end i (counters (set row (p - 1) (record { 0 = v })) i)
    more l p v pair row few all i m =
        elim (ℕ_discrete i (p - 1)) [
          | yes e ↦
              let named : i < n = omega (arith, pair.rising, pair.most) in
              let other : (suc i ≡ end → ⊥) = λ q. pair.other (omega (arith, pair.rising)) in
              let here : counters (set row (p - 1) (record { 0 = v })) i ≡ v = rw e (set_here row (p - 1) (record { 0 = v }) (omega arith)) in
              rw here (record { most = omega (arith, pair.known); named = λ k. (named, other) })
          | no ne ↦ rw (set_there row (p - 1) i (record { 0 = v }) ne) (all i m)
        ]

-- the row that formed pairs make: sixteen entries, and such ones
pub news_formed : (n end count : ℕ) (xs : List ℕ) → n ≤ 16 → pairs_formed n end 0 count xs ≡ true
    → (length (news_in no_news xs) ≡ 16) × ((p : ℕ) → p < 16 → Entry n end p (counters (news_in no_news xs) p))
news_formed n end count xs few h =
    let long : length no_news ≡ 16 = row_length (λ p. mark) in (
      news_length n end 0 count xs no_news h ∙ long,
      λ p m. news_entries n end 0 count xs no_news h (omega arith) (λ i b. none i (omega arith)) p (omega arith),
    )
  where
    none : (i : ℕ) → i < 16 → Entry n end i (counters no_news i)
    none i b =
        let e : counters no_news i ≡ mark = counter_of_row (λ p. mark) i b in
        record { most = omega arith; named = λ k. absurd (omega arith) }
