-- The lowest number at which a test is true, and the lowest pair.
use mathlib.Core.Path.{◌≡◌, refl, sym, ap, subst, ◌∙◌}
use mathlib.Core.Bool.{Bool, true, false, true≢false}
use mathlib.Core.Option.{Option, none, some, or_else, bind, map}
use Prim.Native.Nat.{ℕ, zero, suc, ◌<◌}
use native.Mathlib.Decide.{dec_lt}
use native.Mathlib.Omega.{arith}
use Rattle.lists.specs.Over.{lowest, is_found, lowest_pair}
use Rattle.lists.specs.Pick.{pick}

-- ---- one

-- the lowest of the numbers below k, or none of them
pub record Lowest (f : ℕ → Bool) (k i : ℕ) : Type 0 where
  pub below : i < k
  pub here : f i ≡ true
  pub before : (h : ℕ) → h < i → f h ≡ false

abbrev pub IsLowest : (ℕ → Bool) → ℕ → Option ℕ → Type 0
IsLowest f k none = (i : ℕ) → i < k → f i ≡ false
IsLowest f k (some i) = Lowest f k i

pub lowest_is : (k : ℕ) (f : ℕ → Bool) → IsLowest f k (lowest k f)
unfolding lowest or_else
lowest_is zero f = λ i m. absurd (omega arith)
lowest_is (suc k) f = go (lowest k f) (lowest_is k f) (f k) refl
  where
    go : (o : Option ℕ) → IsLowest f k o → (b : Bool) → f k ≡ b → IsLowest f (suc k) (or_else o (pick b (some k) none))
    go none ih true e = record { below = omega arith; here = e; before = ih }
    go none ih false e = λ i m.
        elim (dec_lt i k) [ yes l ↦ ih i l | no l ↦ let last : i ≡ k = omega arith in rw last e ]
    go (some i) ih b e = record { below = omega (arith, ih.below); here = ih.here; before = ih.before }

-- there is only one
only_one : {f : ℕ → Bool} {k i j : ℕ} → Lowest f k i → Lowest f k j → i ≡ j
only_one {f} {k} {i} {j} a b =
    elim (dec_lt i j) [
      | yes l ↦ absurd (true≢false (sym a.here ∙ b.before i l))
      | no l ↦ elim (dec_lt j i) [
        | yes m ↦ absurd (true≢false (sym b.here ∙ a.before j m))
        | no m ↦ omega arith
      ]
    ]

pub lowest_some : (k : ℕ) (f : ℕ → Bool) (i : ℕ) → Lowest f k i → lowest k f ≡ some i
lowest_some k f i at = go (lowest k f) (lowest_is k f)
  where
    go : (o : Option ℕ) → IsLowest f k o → o ≡ some i
    go none never = absurd (true≢false (sym at.here ∙ never i at.below))
    go (some j) found = ap some (only_one found at)

pub lowest_none : (k : ℕ) (f : ℕ → Bool) → ((i : ℕ) → i < k → f i ≡ false) → lowest k f ≡ none
lowest_none k f never = go (lowest k f) (lowest_is k f)
  where
    go : (o : Option ℕ) → IsLowest f k o → o ≡ none
    go none h = refl
    go (some j) found = absurd (true≢false (sym found.here ∙ never j found.below))

-- what follows from how the lowest came out
pub lowest_found : (k : ℕ) (f : ℕ → Bool) {o : Option ℕ} → lowest k f ≡ o → IsLowest f k o
lowest_found k f e = subst (IsLowest f k) e (lowest_is k f)

-- two tests that answer alike
pub lowest_ext : (k : ℕ) (f g : ℕ → Bool) → ((i : ℕ) → i < k → f i ≡ g i) → lowest k f ≡ lowest k g
unfolding lowest or_else
lowest_ext zero f g same = refl
lowest_ext (suc k) f g same = rw (lowest_ext k f g (λ i h. same i (omega arith)), same k (omega arith))

-- ---- a pair

-- the lowest j, and for it the lowest p; or none
pub record LowestPair (f : ℕ → ℕ → Bool) (k j p : ℕ) : Type 0 where
  pub first : j < k
  pub second : p < k
  pub here : f j p ≡ true
  pub lower_first : (i q : ℕ) → i < j → q < k → f i q ≡ false
  pub lower_second : (q : ℕ) → q < p → f j q ≡ false

abbrev pub IsLowestPair : (ℕ → ℕ → Bool) → ℕ → Option (ℕ × ℕ) → Type 0
IsLowestPair f k none = (j p : ℕ) → j < k → p < k → f j p ≡ false
IsLowestPair f k (some pair) = LowestPair f k pair.0 pair.1

-- where none is found, there is none
none_there : (f : ℕ → Bool) (k : ℕ) (o : Option ℕ) → IsLowest f k o → is_found o ≡ false → (i : ℕ) → i < k → f i ≡ false
none_there f k none never e = never
none_there f k (some i) found e = absurd (true≢false e)

pub pair_is : (k : ℕ) (f : ℕ → ℕ → Bool) → IsLowestPair f k (lowest_pair k f)
unfolding lowest_pair bind
pair_is k f = go (lowest k (λ j. is_found (lowest k (f j)))) (lowest_is k (λ j. is_found (lowest k (f j))))
  where
    never : (j : ℕ) → is_found (lowest k (f j)) ≡ false → (p : ℕ) → p < k → f j p ≡ false
    never j e = none_there (f j) k (lowest k (f j)) (lowest_is k (f j)) e

    at : (j : ℕ) → Lowest (λ i. is_found (lowest k (f i))) k j → (o : Option ℕ) → IsLowest (f j) k o → is_found o ≡ true
        → IsLowestPair f k (map (λ (p : ℕ). (j, p)) o)
    at j row none lost e = absurd (true≢false (sym e))
    at j row (some p) found e =
        record {
          first = row.below;
          second = found.below;
          here = found.here;
          lower_first = λ i q h m. never i (row.before i h) q m;
          lower_second = found.before;
        }

    go : (o : Option ℕ) → IsLowest (λ j. is_found (lowest k (f j))) k o → IsLowestPair f k (bind o (λ j. map (λ (p : ℕ). (j, p)) (lowest k (f j))))
    go none lost = λ j p m n. never j (lost j m) p n
    go (some j) row = at j row (lowest k (f j)) (lowest_is k (f j)) row.here

pub pair_some : (k : ℕ) (f : ℕ → ℕ → Bool) (j p : ℕ) → LowestPair f k j p → lowest_pair k f ≡ some (j, p)
unfolding lowest_pair bind
pair_some k f j p at =
    let second : lowest k (f j) ≡ some p
    = lowest_some k (f j) p record { below = at.second; here = at.here; before = at.lower_second } in
    let first : lowest k (λ i. is_found (lowest k (f i))) ≡ some j
    = lowest_some k (λ i. is_found (lowest k (f i))) j
    record {
      below = at.first;
      here = ap is_found second;
      before = λ i h. ap is_found (lowest_none k (f i) (λ q m. at.lower_first i q h m));
    } in
    rw (first, second)

pub pair_none : (k : ℕ) (f : ℕ → ℕ → Bool) → ((j p : ℕ) → j < k → p < k → f j p ≡ false) → lowest_pair k f ≡ none
unfolding lowest_pair bind
pair_none k f never =
    let first : lowest k (λ i. is_found (lowest k (f i))) ≡ none
    = lowest_none k (λ i. is_found (lowest k (f i))) (λ i h. ap is_found (lowest_none k (f i) (λ q m. never i q h m))) in
    rw first

-- what follows from how the pair came out
pub pair_found : (k : ℕ) (f : ℕ → ℕ → Bool) {o : Option (ℕ × ℕ)} → lowest_pair k f ≡ o → IsLowestPair f k o
pair_found k f e = subst (IsLowestPair f k) e (pair_is k f)
