-- Laws of functions of the numbers below a bound: true of all of them, added up, as a list; and of the last number at which
-- one is true.
use mathlib.Core.Path.{◌≡◌, refl, sym, ap, subst, ◌∙◌}
use mathlib.Core.Bool.{Bool, true, false, true≢false}
use mathlib.Core.List.{List, [], ◌∷◌, ◌++◌}
use Prim.Native.Nat.{ℕ, zero, suc, ◌+◌, ◌-◌, ◌≤◌, ◌<◌}
use native.Mathlib.Decide.{dec_lt, ℕ_discrete}
use native.Mathlib.Omega.{arith}
use lib.ListN.{length, get_or, set, replicate, length-set, length-replicate, get_or-replicate, get_or-eq_default}
use lib.Seq.{ext_get_or, get_or-set_same, get_or-set_other}
use Rattle.lists.proofs.Tests.{and_both, both_and, both_ways}
use Rattle.lists.specs.Over.{all_to, sum_to, tab_from, tab, last_to}

-- ---- true of all

pub all_in : (k : ℕ) (f : ℕ → Bool) → all_to k f ≡ true → (i : ℕ) → i < k → f i ≡ true
unfolding all_to
all_in zero f h i m = absurd (omega arith)
all_in (suc k) f h i m =
    let b = and_both (all_to k f) (f k) h in
    elim (dec_lt i k) [ yes l ↦ all_in k f b.0 i l | no l ↦ let e : i ≡ k = omega arith in rw e b.1 ]

pub all_out : (k : ℕ) (f : ℕ → Bool) → ((i : ℕ) → i < k → f i ≡ true) → all_to k f ≡ true
unfolding all_to
all_out zero f h = refl
all_out (suc k) f h = both_and (all_to k f) (f k) (all_out k f (λ i m. h i (omega arith))) (h k (omega arith))

pub all_not : (k : ℕ) (f : ℕ → Bool) (i : ℕ) → i < k → f i ≡ false → all_to k f ≡ false
all_not k f i m h = go (all_to k f) refl
  where
    go : (b : Bool) → all_to k f ≡ b → all_to k f ≡ false
    go true e = absurd (true≢false (sym (all_in k f e i m) ∙ h))
    go false e = e

-- where it is not true of all, one of them shows it
pub all_witness : (k : ℕ) (f : ℕ → Bool) → all_to k f ≡ false → (i : ℕ) × (i < k) × (f i ≡ false)
unfolding all_to
all_witness zero f h = absurd (true≢false h)
all_witness (suc k) f h = go (all_to k f) refl (all_witness k f)
  where
    go : (b : Bool) → all_to k f ≡ b → (all_to k f ≡ false → (i : ℕ) × (i < k) × (f i ≡ false)) → (i : ℕ) × (i < suc k) × (f i ≡ false)
    go true e ih = (k, omega arith, rw e at h)
    go false e ih = let w = ih e in (w.0, omega arith, w.2)

-- two tests that answer alike, and two of which each follows from the other
pub all_ext : (k : ℕ) (f g : ℕ → Bool) → ((i : ℕ) → i < k → f i ≡ g i) → all_to k f ≡ all_to k g
unfolding all_to
all_ext zero f g same = refl
all_ext (suc k) f g same = rw (all_ext k f g (λ i h. same i (omega arith)), same k (omega arith))

pub all_same : (k m : ℕ) (f g : ℕ → Bool) → (((i : ℕ) → i < k → f i ≡ true) → (i : ℕ) → i < m → g i ≡ true)
    → (((i : ℕ) → i < m → g i ≡ true) → (i : ℕ) → i < k → f i ≡ true) → all_to k f ≡ all_to m g
all_same k m f g on back =
    both_ways (all_to k f) (all_to m g) (λ h. all_out m g (on (all_in k f h))) (λ h. all_out k f (back (all_in m g h)))

-- ---- added up

pub sum_ext : (k : ℕ) (c d : ℕ → ℕ) → ((i : ℕ) → i < k → c i ≡ d i) → sum_to k c ≡ sum_to k d
unfolding sum_to
sum_ext zero c d h = refl
sum_ext (suc k) c d h = rw (sum_ext k c d (λ i m. h i (omega arith)), h k (omega arith))

pub sum_le : (k : ℕ) (c d : ℕ → ℕ) → ((i : ℕ) → i < k → c i ≤ d i) → sum_to k c ≤ sum_to k d
unfolding sum_to
sum_le zero c d h = omega arith
sum_le (suc k) c d h =
    let ih : sum_to k c ≤ sum_to k d = sum_le k c d (λ i m. h i (omega arith)) in
    omega (arith, h k (omega arith))

-- nowhere more, and no less added up: the same
pub sum_same : (k : ℕ) (c d : ℕ → ℕ) → ((i : ℕ) → i < k → c i ≤ d i) → sum_to k d ≤ sum_to k c → (i : ℕ) → i < k → c i ≡ d i
unfolding sum_to
sum_same zero c d h s i m = absurd (omega arith)
sum_same (suc k) c d h s i m =
    let low : (i : ℕ) → i < k → c i ≤ d i = λ i m. h i (omega arith) in
    let part : sum_to k c ≤ sum_to k d = sum_le k c d low in
    let last : c k ≤ d k = h k (omega arith) in
    elim (dec_lt i k) [
      | yes l ↦ sum_same k c d low (omega arith) i l
      | no l ↦ let e : i ≡ k = omega arith in rw e (omega arith)
    ]

-- each is at most the sum
pub sum_at : (k : ℕ) (c : ℕ → ℕ) (i : ℕ) → i < k → c i ≤ sum_to k c
unfolding sum_to
sum_at zero c i m = absurd (omega arith)
sum_at (suc k) c i m = elim (dec_lt i k) [
  | yes l ↦ let ih : c i ≤ sum_to k c = sum_at k c i l in omega arith
  | no l ↦ let e : i ≡ k = omega arith in rw e (omega arith)
]

-- one less at one point
pub sum_less : (k j : ℕ) (c c' : ℕ → ℕ) → j < k → c' j + 1 ≡ c j → ((i : ℕ) → i < k → (i ≡ j → ⊥) → c' i ≡ c i)
    → sum_to k c' + 1 ≡ sum_to k c
unfolding sum_to
sum_less zero j c c' m one others = absurd (omega arith)
sum_less (suc k) j c c' m one others = elim (dec_lt j k) [
  | yes l ↦
      let ih : sum_to k c' + 1 ≡ sum_to k c = sum_less k j c c' l one (λ i n o. others i (omega arith) o) in
      let last : c' k ≡ c k = others k (omega arith) (omega arith) in
      omega arith
  | no l ↦
      let e : j ≡ k = omega arith in
      let part : sum_to k c' ≡ sum_to k c = sum_ext k c' c (λ i n. others i (omega arith) (omega arith)) in
      let last : c' k + 1 ≡ c k = rw e at one in
      omega arith
]

-- what is missing from a larger one
pub sum_missing : (k : ℕ) (c d : ℕ → ℕ) → ((i : ℕ) → i < k → c i ≤ d i) → sum_to k (λ i. d i - c i) + sum_to k c ≡ sum_to k d
unfolding sum_to
sum_missing zero c d h = refl
sum_missing (suc k) c d h =
    let ih : sum_to k (λ i. d i - c i) + sum_to k c ≡ sum_to k d = sum_missing k c d (λ i m. h i (omega arith)) in
    omega (arith, h k (omega arith))

-- ---- as a list

length_from : {A : Type 0} (i k : ℕ) (f : ℕ → A) → length (tab_from i k f) ≡ k
unfolding tab_from
length_from i zero f = refl
length_from i (suc k) f = let ih = length_from (suc i) k f in omega arith

pub length_tab : {A : Type 0} (k : ℕ) (f : ℕ → A) → length (tab k f) ≡ k
length_tab k f = length_from 0 k f

get_d_from : {A : Type 0} (i k : ℕ) (f : ℕ → A) (j : ℕ) (d : A) → j < k → get_or (tab_from i k f) j d ≡ f (i + j)
unfolding tab_from
get_d_from i zero f j d m = absurd (omega arith)
get_d_from i (suc k) f zero d m = let e : i + 0 ≡ i = omega arith in rw e
get_d_from i (suc k) f (suc j) d m = let e : i + suc j ≡ suc i + j = omega arith in rw e (get_d_from (suc i) k f j d (omega arith))

pub get_d_tab : {A : Type 0} (k : ℕ) (f : ℕ → A) (i : ℕ) (d : A) → i < k → get_or (tab k f) i d ≡ f i
get_d_tab k f i d m = let e : 0 + i ≡ i = omega arith in rw e at (get_d_from 0 k f i d m)

-- a place that there is holds the same whatever would stand beyond the end
pub at_place : {A : Type 0} (d e : A) (l : List A) (k : ℕ) → k < length l → get_or l k d ≡ get_or l k e
at_place d e [] k h = absurd (omega arith)
at_place d e (x ∷ l) zero h = refl
at_place d e (x ∷ l) (suc k) h = at_place d e l k (omega arith)

-- a list of one value
pub replicate_at : {A : Type 0} (size : ℕ) (d : A) (i : ℕ) → get_or (replicate size d) i d ≡ d
replicate_at size d i =
    elim (dec_lt i size) [
      | yes h ↦ get_or-replicate size i d d h
      | no h ↦ get_or-eq_default (replicate size d) d {n = i} (omega (arith, length-replicate size d))
    ]

-- a list as long, with the values of a function
pub tab_is : {A : Type 0} (d : A) (k : ℕ) (f : ℕ → A) (l : List A) → length l ≡ k → ((i : ℕ) → i < k → get_or l i d ≡ f i) → l ≡ tab k f
tab_is d k f l long same =
    ext_get_or d l (tab k f) (long ∙ sym (length_tab k f)) (λ i h. same i (omega (arith, long)) ∙ sym (get_d_tab k f i d (omega (arith, long))))

-- one value changed
pub tab_stored : {A : Type 0} (d : A) (k : ℕ) (f g : ℕ → A) (i : ℕ) (v : A) → i < k → v ≡ g i
    → ((x : ℕ) → x < k → (x ≡ i → ⊥) → f x ≡ g x) → set (tab k f) i v ≡ tab k g
tab_stored d k f g i v h here others =
    tab_is d k g (set (tab k f) i v) (length-set (tab k f) i v ∙ length_tab k f) (λ x m.
    elim (ℕ_discrete x i) [
      | yes e ↦
          subst (λ (y : ℕ). get_or (set (tab k f) i v) y d ≡ g y) (sym e)
          (get_or-set_same (tab k f) i v d (omega (arith, length_tab k f)) ∙ here)
      | no ne ↦ get_or-set_other (tab k f) i x v d ne ∙ get_d_tab k f x d m ∙ others x m ne
    ])

tab_last_from : {A : Type 0} (i k : ℕ) (f : ℕ → A) → tab_from i (suc k) f ≡ tab_from i k f ++ (f (i + k) ∷ [])
unfolding tab_from
tab_last_from i zero f = let e : i + 0 ≡ i = omega arith in rw e
tab_last_from {A} i (suc k) f =
    let e : i + suc k ≡ suc i + k = omega arith in
    rw e (ap (λ (l : List A). f i ∷ l) (tab_last_from (suc i) k f))

-- the last value
pub tab_last : {A : Type 0} (k : ℕ) (f : ℕ → A) → tab (suc k) f ≡ tab k f ++ (f k ∷ [])
tab_last k f = let e : 0 + k ≡ k = omega arith in rw e at (tab_last_from 0 k f)

tab_same_from : {A : Type 0} (i k : ℕ) (f g : ℕ → A) → ((j : ℕ) → j < i + k → f j ≡ g j) → tab_from i k f ≡ tab_from i k g
unfolding tab_from
tab_same_from i zero f g h = refl
tab_same_from i (suc k) f g h = rw (h i (omega arith), tab_same_from (suc i) k f g (λ j l. h j (omega arith)))

-- as long, and the same values
pub tab_same : {A : Type 0} (k m : ℕ) (f g : ℕ → A) → k ≡ m → ((i : ℕ) → i < k → f i ≡ g i) → tab k f ≡ tab m g
tab_same k m f g e h = tab_same_from 0 k f g (λ i l. h i (omega arith)) ∙ ap (λ (k : ℕ). tab k g) e

-- ---- the last at which it is true

pub last_yes : (f : ℕ → Bool) (k : ℕ) → f (suc k) ≡ true → last_to f (suc k) ≡ suc k
unfolding last_to
last_yes f k h = rw (last_to, h)

pub last_no : (f : ℕ → Bool) (k : ℕ) → f (suc k) ≡ false → last_to f (suc k) ≡ last_to f k
unfolding last_to
last_no f k h = rw (last_to, h)

pub last_back : (f : ℕ → Bool) (k : ℕ) → last_to f k ≤ k
unfolding last_to
last_back f zero = omega arith
last_back f (suc k) = go (f (suc k)) refl (last_back f k)
  where
    go : (b : Bool) → f (suc k) ≡ b → last_to f k ≤ k → last_to f (suc k) ≤ suc k
    go true e ih = omega (arith, last_yes f k e)
    go false e ih = omega (arith, last_no f k e)

pub last_true : (f : ℕ → Bool) (k : ℕ) → 1 ≤ last_to f k → f (last_to f k) ≡ true
unfolding last_to
last_true f zero m = absurd (omega arith)
last_true f (suc k) m = go (f (suc k)) refl (last_true f k)
  where
    go : (b : Bool) → f (suc k) ≡ b → (1 ≤ last_to f k → f (last_to f k) ≡ true) → f (last_to f (suc k)) ≡ true
    go true e ih = rw (last_yes f k e) e
    go false e ih = rw (last_no f k e) (ih (omega (arith, last_no f k e)))

pub last_later : (f : ℕ → Bool) (k s : ℕ) → last_to f k < s → s ≤ k → f s ≡ false
unfolding last_to
last_later f zero s m n = absurd (omega arith)
last_later f (suc k) s m n = go (f (suc k)) refl (last_later f k s)
  where
    go : (b : Bool) → f (suc k) ≡ b → (last_to f k < s → s ≤ k → f s ≡ false) → f s ≡ false
    go true e ih = absurd (omega (arith, last_yes f k e))
    go false e ih = elim (dec_lt k s) [
      | yes l ↦ let at : s ≡ suc k = omega arith in rw at e
      | no l ↦ ih (omega (arith, last_no f k e)) (omega arith)
    ]

-- none after it is true
pub last_from : (f : ℕ → Bool) (k s : ℕ) → f s ≡ true → s ≤ k → s ≤ last_to f k
last_from f k s h m = elim (dec_lt (last_to f k) s) [
  | yes l ↦ absurd (true≢false (sym h ∙ last_later f k s l m))
  | no l ↦ omega arith
]

-- From the last at which one is true, on to the last at which a stronger one is: it is the last of those from the start.
pub last_again : (f g : ℕ → Bool) → ((s : ℕ) → g s ≡ true → f s ≡ true) → (k : ℕ) → last_to g (last_to f k) ≡ last_to g k
unfolding last_to
last_again f g weaker zero = refl
last_again f g weaker (suc k) = go (f (suc k)) refl (g (suc k)) refl (last_again f g weaker k)
  where
    go : (a : Bool) → f (suc k) ≡ a → (b : Bool) → g (suc k) ≡ b → last_to g (last_to f k) ≡ last_to g k
        → last_to g (last_to f (suc k)) ≡ last_to g (suc k)
    go true e b e' ih = ap (last_to g) (last_yes f k e)
    go false e true e' ih = absurd (true≢false (sym (weaker (suc k) e') ∙ e))
    go false e false e' ih = ap (last_to g) (last_no f k e) ∙ (ih ∙ sym (last_no g k e'))
