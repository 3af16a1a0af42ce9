-- How many pairs there are among the first processes.
use mathlib.Core.Path.{◌≡◌, refl, ap, ◌∙◌}
use Prim.Native.Nat.{ℕ, ◌+◌, ◌≤◌, ◌<◌}
use native.Mathlib.Numerals.{add-one}
use native.Mathlib.Omega.{arith}
use borrow.Author.Tests.{eq-eqb, ne_eqb}
use Rattle.book.specs.Bounds.{mark}
use Rattle.lists.specs.Over.{sum_to}
use Rattle.message.specs.Layout.{pair_count_to}

-- so many of the first k processes have a pair
pub record Counted (news : ℕ → ℕ) (k count : ℕ) : Type 0 where
  pub within : k ≤ 16
  pub no_more : count ≤ k
  pub so_far : count ≡ pair_count_to k news

pub counted_none : (news : ℕ → ℕ) → Counted news 0 0
unfolding sum_to
counted_none news = record { within = omega arith; no_more = omega arith; so_far = refl }

module _ (news : ℕ → ℕ) (k count : ℕ) (counted : Counted news k count) (h : k < 16) where
  pub counted_more : (news k ≡ mark → ⊥) → Counted news (k + 1) (count + 1)
  unfolding sum_to
  counted_more differs =
      record {
        within = omega arith;
        no_more = omega (arith, counted.no_more);
        so_far = rw (add-one k, ne_eqb (news k) mark differs) (ap (λ (m : ℕ). m + 1) counted.so_far);
      }

  pub counted_same : news k ≡ mark → Counted news (k + 1) count
  unfolding sum_to
  counted_same equal =
      record {
        within = omega arith;
        no_more = omega (arith, counted.no_more);
        so_far = rw (add-one k, eq-eqb (news k) mark equal) (omega (arith, counted.so_far));
      }

-- all sixteen are counted
pub counted_all : (news : ℕ → ℕ) (k count : ℕ) → Counted news k count → 16 ≤ k → (count ≡ pair_count_to 16 news) × (count ≤ 16)
counted_all news k count counted h =
    let e : k ≡ 16 = omega (arith, counted.within) in
    (counted.so_far ∙ ap (λ (m : ℕ). pair_count_to m news) e, omega (arith, counted.within, counted.no_more))
