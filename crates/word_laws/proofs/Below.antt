-- Words below a bound.
use mathlib.Core.Path.{◌≡◌, sym, subst}
use mathlib.Core.Bool.{true}
use mathlib.Core.List.{List}
use Prim.Native.Nat.{ℕ, ◌+◌, ◌-◌, ◌<◌}
use native.Mathlib.Decide.{dec_lt}
use native.Mathlib.Omega.{arith}
use borrow.Author.Tests.{ltb-true, lt-ltb}
use lib.Dec.{ltb}
use Rattle.lists.specs.Over.{tab}
use Rattle.lists.proofs.Over.{all_in, all_out}
use Rattle.words.specs.Words.{word, all_below}
use Rattle.word_laws.proofs.Lying.{Lies, lies_tab_in}

-- k words from a place on are below a bound
pub record Below (bound : ℕ) (words : List ℕ) (at k : ℕ) : Type 0 where
  pub each : (i : ℕ) → i < k → word words (at + i) < bound

module _ {bound : ℕ} {words : List ℕ} {at : ℕ} where
  pub below_in : {k : ℕ} → all_below bound words at k ≡ true → Below bound words at k
  unfolding all_below
  below_in {k} h =
      record {
        each = λ i m. ltb-true (word words (at + i)) bound (all_in k (λ j. ltb (word words (at + j)) bound) h i m);
      }

  pub below_out : {k : ℕ} → Below bound words at k → all_below bound words at k ≡ true
  unfolding all_below
  below_out {k} below =
      all_out k (λ j. ltb (word words (at + j)) bound) (λ i m. lt-ltb (word words (at + i)) bound (below.each i m))

  -- the values of a function that are below it
  pub below_tab : (k : ℕ) (f : ℕ → ℕ) → Lies words at (tab k f) → ((i : ℕ) → i < k → f i < bound) → Below bound words at k
  below_tab k f lies low =
      record { each = λ i h. subst (λ (w : ℕ). w < bound) (sym (lies_tab_in k f lies i h)) (low i h) }

  -- a first part of k words and a second of m
  module _ (k m : ℕ) {next : ℕ} (seam : next ≡ at + k) where
    pub below_first : Below bound words at (k + m) → Below bound words at k
    below_first below = record { each = λ i h. below.each i (omega arith) }

    pub below_second : Below bound words at (k + m) → Below bound words next m
    below_second below =
        record {
          each = λ i h.
              let there : at + (k + i) ≡ next + i = omega arith in
              subst (λ (p : ℕ). word words p < bound) there (below.each (k + i) (omega arith));
        }

    pub below_both : Below bound words at k → Below bound words next m → Below bound words at (k + m)
    below_both first second = record { each = λ i h. at_each i h }
      where
        at_each : (i : ℕ) → i < k + m → word words (at + i) < bound
        at_each i h =
            elim (dec_lt i k) [
              | yes l ↦ first.each i l
              | no l ↦
                  let there : next + (i - k) ≡ at + i = omega arith in
                  subst (λ (p : ℕ). word words p < bound) there (second.each (i - k) (omega arith))
            ]
