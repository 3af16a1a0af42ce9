-- One row of a table: the counters for the other processes, and back.
use mathlib.Core.Path.{◌≡◌, ◌∙◌}
use mathlib.Core.Bool.{true}
use mathlib.Core.List.{List, ◌∷◌, ◌++◌, append_assoc}
use Prim.Native.Nat.{ℕ, suc, ◌-◌, ◌≤◌, ◌<◌}
use native.Mathlib.Omega.{arith}
use lib.ListN.{length, take, drop, get_or, replicate}
use lib.Seq.{length-take-le, take_at, drop_at, get_or_at, split_at, take-take, get_or-take}
use Rattle.book.specs.Tables.{padded, table_row, others}
use Rattle.book.specs.Questions.{all_zero}
use Rattle.book.proofs.Rows.{length_spread}
use Rattle.round_trips.proofs.Zeros.{zeros, length_padded, padded_take}

module _ (n j : ℕ) (cs rest : List ℕ) (h : j < n) (k : n ≤ 16) (long : length cs ≡ n - 1) where
  -- the own column is zero, and so are those of absent processes
  pub row_own : get_or (table_row j cs ++ rest) j 0 ≡ 0
  unfolding table_row
  row_own =
      let a : List ℕ = take j cs ++ 0 ∷ drop j cs in
      let pad : List ℕ = replicate (16 - length a) 0 in
      let lj : length (take j cs) ≡ j = length-take-le j cs (omega arith) in
      rw (append_assoc a pad rest, append_assoc (take j cs) (0 ∷ drop j cs) (pad ++ rest))
      (get_or_at (take j cs) 0 (drop j cs ++ (pad ++ rest)) 0 j lj)

  pub row_absent : all_zero (drop n (take 16 (table_row j cs ++ rest))) ≡ true
  unfolding table_row
  row_absent =
      let a : List ℕ = take j cs ++ 0 ∷ drop j cs in
      let pad : List ℕ = replicate (16 - length a) 0 in
      let la : length a ≡ n = length_spread j cs ∙ omega arith in
      rw (take_at (padded 16 a) rest 16 (length_padded 16 a (rw la k)), drop_at a pad n la) (zeros (16 - length a))

-- a row whose unused entries are zero
pub row_others : (n j : ℕ) (row : List ℕ) → j < n → n ≤ 16 → 16 ≤ length row → get_or row j 0 ≡ 0
    → all_zero (drop n (take 16 row)) ≡ true → table_row j (others n j row) ≡ take 16 row
unfolding others table_row
row_others n j row h k long own absent =
    let p : List ℕ = take j row in
    let q : List ℕ = drop (suc j) (take n row) in
    let lp : length p ≡ j = length-take-le j row (omega arith) in
    let ln : length (take n row) ≡ n = length-take-le n row (omega arith) in
    let whole : take n row ≡ p ++ 0 ∷ q
    = rw (take-take j n row (omega arith), get_or-take n row j 0 h, own) at (split_at (take n row) j 0 (rw ln h)) in
    let filled : padded 16 (take n row) ≡ take 16 row
    = rw (take-take n 16 row k) at (padded_take n 16 (take 16 row) (length-take-le 16 row long) k absent) in
    rw (take_at p q j lp, drop_at p q j lp, ← whole) filled
