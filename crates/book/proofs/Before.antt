-- The counters of the row before a row, one for each of the others.
use mathlib.Core.Path.{◌≡◌, refl, ap, ◌∙◌}
use mathlib.Core.Bool.{Bool, true, false}
use mathlib.Core.List.{List}
use Prim.Native.Nat.{ℕ, ◌+◌, ◌-◌, ◌≤◌, ◌<◌}
use native.Mathlib.Omega.{arith}
use lib.ListN.{length, drop, get_or, length-replicate, get_or-replicate}
use lib.Seq.{get_or-drop}
use Rattle.book.specs.Tables.{partner_column}
use Rattle.book.specs.Before.{entry_before, counters_before}
use Rattle.book.proofs.Rows.{length_others, get_d_others}

module _ (n j start : ℕ) (table : List ℕ) (present : j < n) (wide : n ≤ length (drop (start - 16) table)) where
  pub length_before : (oldest : Bool) → length (counters_before oldest n j start table) ≡ n - 1
  unfolding counters_before
  length_before true = length-replicate (n - 1) 0
  length_before false = length_others n j (drop (start - 16) table) present wide

  -- each is the entry one row before its column
  pub before_there : (oldest : Bool) (k : ℕ) → (oldest ≡ false → 16 ≤ start) → k < n - 1
      → get_or (counters_before oldest n j start table) k 0 ≡ entry_before oldest (start + partner_column j k) table
  unfolding counters_before
  before_there true k later h = get_or-replicate (n - 1) k 0 0 h
  before_there false k later h =
      let at = later refl in
      let same : start - 16 + partner_column j k ≡ start + partner_column j k - 16 = omega arith in
      get_d_others n j k (drop (start - 16) table) present wide h
      ∙ get_or-drop (start - 16) table (partner_column j k) 0
      ∙ ap (λ (i : ℕ). get_or table i 0) same
