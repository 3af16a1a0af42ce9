-- Formed pairs in a list of numbers: what the tests tell, one more pair after them, how many there can be and how many
-- bytes they take.
-- Assumes nothing.
use mathlib.Core.Path.{◌≡◌, refl, sym}
use mathlib.Core.Bool.{true, not, ◌&&◌, true≢false}
use mathlib.Core.List.{List, [], ◌∷◌, ◌++◌}
use Prim.Native.Nat.{ℕ, zero, suc, ◌+◌, ◌*◌, ◌≤◌, ◌<◌}
use native.Mathlib.Decide.{dec_lt}
use native.Mathlib.Omega.{arith}
use borrow.Author.Tests.{ltb-true, leb-true, eqb-false, not-true, lt-ltb, le-leb, ne_eqb}
use lib.ListN.{length, get_or, length-append}
use lib.Dec.{ltb, leb, eqb}
use Rattle.varint.specs.Number.{encode}
use Rattle.varint.specs.Sequence.{encode_all}
use Rattle.varint.proofs.Encode.{encode_last, encode_size}
use Rattle.book.specs.Bounds.{groups, largest, mark}
use Rattle.book.proofs.Bounds.{groups_some, largest_fits, mark_most}
use Rattle.lists.proofs.Tests.{and_both, both_and}
use Rattle.message.specs.Layout.{pair_size}
use Rattle.message.specs.Formed.{pair_formed, pairs_formed}

-- ---- one pair

pub record Pair (n end last process counter : ℕ) : Type 0 where
  pub rising : last < process
  pub most : process ≤ n
  pub other : process ≡ end → ⊥
  pub known : counter < mark

pair_in : (n end last p v : ℕ) → pair_formed n end last p v ≡ true → Pair n end last p v
unfolding pair_formed
pair_in n end last p v h =
    let a = and_both (ltb last p) (leb p n && (not (eqb p end) && ltb v mark)) h in
    let b = and_both (leb p n) (not (eqb p end) && ltb v mark) a.1 in
    let c = and_both (not (eqb p end)) (ltb v mark) b.1 in
    record {
      rising = ltb-true last p a.0;
      most = leb-true p n b.0;
      other = eqb-false p end (not-true (eqb p end) c.0);
      known = ltb-true v mark c.1;
    }

pair_out : (n end last p v : ℕ) → Pair n end last p v → pair_formed n end last p v ≡ true
unfolding pair_formed
pair_out n end last p v pair =
    rw (lt-ltb last p pair.rising, le-leb p n pair.most, ne_eqb p end pair.other, lt-ltb v mark pair.known)

-- ---- all of them

formed_cons : (n end last count p v : ℕ) (xs : List ℕ) → Pair n end last p v → pairs_formed n end p count xs ≡ true
    → pairs_formed n end last (suc count) (p ∷ v ∷ xs) ≡ true
unfolding pairs_formed
formed_cons n end last count p v xs pair h =
    both_and (pair_formed n end last p v) (pairs_formed n end p count xs) (pair_out n end last p v pair) h

pub formed_none : (n end last : ℕ) → pairs_formed n end last 0 [] ≡ true
unfolding pairs_formed
formed_none n end last = refl

-- it holds of no pairs, and with one more pair in front
pub formed_induction : (n end : ℕ) (P : ℕ → ℕ → List ℕ → Type 0) → ((last : ℕ) → P last 0 [])
    → ((last count p v : ℕ) (xs : List ℕ) → Pair n end last p v → P p count xs → P last (suc count) (p ∷ v ∷ xs))
    → (last count : ℕ) (xs : List ℕ) → pairs_formed n end last count xs ≡ true → P last count xs
unfolding pairs_formed
formed_induction n end P none more last zero [] h = none last
formed_induction n end P none more last zero (x ∷ xs) h = absurd (true≢false (sym h))
formed_induction n end P none more last (suc count) [] h = absurd (true≢false (sym h))
formed_induction n end P none more last (suc count) (p ∷ []) h = absurd (true≢false (sym h))
formed_induction n end P none more last (suc count) (p ∷ v ∷ xs) h =
    let b = and_both (pair_formed n end last p v) (pairs_formed n end p count xs) h in
    more last count p v xs (pair_in n end last p v b.0) (formed_induction n end P none more p count xs b.1)

-- more processes
pub formed_wider : (k n end last count : ℕ) (xs : List ℕ) → k ≤ n → pairs_formed k end last count xs ≡ true
    → pairs_formed n end last count xs ≡ true
formed_wider k n end last count xs h =
    formed_induction k end (λ l c ys. pairs_formed n end l c ys ≡ true) (formed_none n end)
    (λ l c p v ys pair ih.
    formed_cons n end l c p v ys
    (record { rising = pair.rising; most = omega (arith, pair.most); other = pair.other; known = pair.known }) ih)
    last count xs

-- one more pair at the end, above all before it
pub formed_snoc : (k n end last count p v : ℕ) (xs : List ℕ) → k < p → Pair n end last p v → pairs_formed k end last count xs ≡ true
    → pairs_formed n end last (suc count) (xs ++ p ∷ v ∷ []) ≡ true
formed_snoc k n end last count p v xs above pair h =
    formed_induction k end (λ l c ys. l < p → pairs_formed n end l (suc c) (ys ++ p ∷ v ∷ []) ≡ true)
    (λ l m. formed_cons n end l 0 p v [] (after l m) (formed_none n end p))
    (λ l c q w ys one ih m.
    formed_cons n end l (suc c) q w (ys ++ p ∷ v ∷ [])
    (record { rising = one.rising; most = omega (arith, one.most, pair.most); other = one.other; known = one.known })
    (ih (omega (arith, one.most))))
    last count xs h pair.rising
  where
    after : (l : ℕ) → l < p → Pair n end l p v
    after l m = record { rising = m; most = pair.most; other = pair.other; known = pair.known }

-- ---- how many, how large and how long

pub formed_length : (n end last count : ℕ) (xs : List ℕ) → pairs_formed n end last count xs ≡ true → length xs ≡ 2 * count
formed_length n end = formed_induction n end (λ l c ys. length ys ≡ 2 * c) (λ l. refl) (λ l c p v ys pair ih. omega arith)

-- each names another process from 1 to n
pub formed_count : (n end last count : ℕ) (xs : List ℕ) → last ≤ n → pairs_formed n end last count xs ≡ true → count + last ≤ n
formed_count n end last count xs within h =
    formed_induction n end (λ l c ys. l ≤ n → c + l ≤ n) (λ l m. omega arith)
    (λ l c p v ys pair ih m. omega (arith, pair.rising, ih pair.most))
    last count xs h within

-- and none that participant
pub formed_few : (n end last count : ℕ) (xs : List ℕ) → end ≤ n → last < end → pairs_formed n end last count xs ≡ true → count + last < n
formed_few n end last count xs there before h =
    (formed_induction n end (λ l c ys. (l ≤ n → c + l ≤ n) × (l < end → c + l < n))
    (λ l. (λ m. omega arith, λ m. omega arith))
    (λ l c p v ys pair ih. (λ m. omega (arith, pair.rising, ih.0 pair.most), λ m. room l c p v m pair ih))
    last count xs h).1 before
  where
    room : (l c p v : ℕ) → l < end → Pair n end l p v → (p ≤ n → c + p ≤ n) × (p < end → c + p < n) → suc c + l < n
    room l c p v m pair ih =
        elim (dec_lt p end) [
          | yes lt ↦ omega (arith, pair.rising, ih.1 lt)
          | no ge ↦ let beyond : end < p = omega (arith, pair.other) in omega (arith, ih.0 pair.most)
        ]

-- no number is above m
abbrev pub AtMost : ℕ → List ℕ → Type 0
AtMost m l = (i : ℕ) → i < length l → get_or l i 0 ≤ m

pub most_cons : (m v : ℕ) (l : List ℕ) → v ≤ m → AtMost m l → AtMost m (v ∷ l)
most_cons m v l h k zero b = h
most_cons m v l h k (suc i) b = k i (omega arith)

pub formed_most : (n end last count : ℕ) (xs : List ℕ) → n ≤ largest → pairs_formed n end last count xs ≡ true → AtMost largest xs
formed_most n end last count xs few =
    formed_induction n end (λ l c ys. AtMost largest ys) (λ l i b. absurd (omega arith))
    (λ l c p v ys pair ih.
    most_cons largest p (v ∷ ys) (omega (arith, pair.most)) (most_cons largest v ys (omega (arith, pair.known, mark_most)) ih))
    last count xs

-- a process below 128 takes one byte, a counter at most as many as there are groups
pub formed_bytes : (n end last count : ℕ) (xs : List ℕ) → n < 128 → pairs_formed n end last count xs ≡ true
    → length (encode_all xs) ≤ count * pair_size
unfolding encode_all
formed_bytes n end last count xs few =
    formed_induction n end (λ l c ys. length (encode_all ys) ≤ c * pair_size) (λ l. omega arith) (λ l c p v ys pair ih. more l c p v ys pair ih)
    last count xs
  where
    more : (l c p v : ℕ) (ys : List ℕ) → Pair n end l p v → length (encode_all ys) ≤ c * pair_size → length (encode_all (p ∷ v ∷ ys)) ≤ suc c * pair_size
    more l c p v ys pair ih =
        let process : p < 128 = omega (arith, pair.most) in
        let counter : length (encode v) ≤ groups = encode_size groups v groups_some (omega (arith, pair.known, mark_most, largest_fits)) in
        rw (encode_last p process, length-append (encode v) (encode_all ys)) (omega arith)
