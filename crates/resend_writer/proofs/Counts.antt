-- How many of the first channels have an entry.
use mathlib.Core.Path.{◌≡◌, refl, ap, ◌∙◌}
use mathlib.Core.Bool.{true, false}
use Prim.Native.Nat.{ℕ, ◌+◌, ◌≤◌, ◌<◌}
use native.Mathlib.Numerals.{add-one}
use native.Mathlib.Omega.{arith}
use Rattle.lists.specs.Over.{sum_to}
use Rattle.restart.specs.Values.{matrix_entries}
use Rattle.resend.specs.Layout.{has_entry, entry_count_to}

-- so many of the first i channels have one
pub record Counted (first : ℕ → ℕ) (i count : ℕ) : Type 0 where
  pub within : i ≤ matrix_entries
  pub no_more : count ≤ i
  pub so_far : count ≡ entry_count_to i first

module _ (first : ℕ → ℕ) where
  pub counted_none : Counted first 0 0
  unfolding sum_to
  counted_none = record { within = omega arith; no_more = omega arith; so_far = refl }

  module _ {i count : ℕ} (counted : Counted first i count) (h : i < matrix_entries) where
    pub counted_more : has_entry (first i) ≡ true → Counted first (i + 1) (count + 1)
    unfolding sum_to
    counted_more there =
        record {
          within = omega arith;
          no_more = omega (arith, counted.no_more);
          so_far = rw (add-one i, there) (ap (λ (m : ℕ). m + 1) counted.so_far);
        }

    pub counted_same : has_entry (first i) ≡ false → Counted first (i + 1) count
    unfolding sum_to
    counted_same none =
        record {
          within = omega arith;
          no_more = omega (arith, counted.no_more);
          so_far = rw (add-one i, none) (omega (arith, counted.so_far));
        }

  -- all are counted
  pub counted_all : {i count : ℕ} → Counted first i count → matrix_entries ≤ i
      → (count ≡ entry_count_to matrix_entries first) × (count ≤ matrix_entries)
  counted_all {i} {count} counted h =
      let e : i ≡ matrix_entries = omega (arith, counted.within) in
      (counted.so_far ∙ ap (λ (m : ℕ). entry_count_to m first) e, omega (arith, counted.within, counted.no_more))
