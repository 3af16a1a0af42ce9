-- One row of a table: a counter more put into its column, and the counters read back from it.
use mathlib.Core.Path.{◌≡◌, refl, sym, ap, ap₂, ◌∙◌}
use mathlib.Core.List.{List, [], ◌∷◌, ◌++◌, append_assoc}
use Prim.Native.Nat.{ℕ, suc, ◌+◌, ◌-◌, ◌≤◌, ◌<◌}
use native.Mathlib.Decide.{dec_lt}
use native.Mathlib.Omega.{arith}
use borrow.Author.Tests.{lt-ltb, le-ltb}
use lib.ListN.{length, take, drop, set, replicate, length-append, drop_of_length-le}
use lib.Seq.{sets, take_all, set_at, append_snoc, take-append-le, drop-append-le}
use Rattle.varint.proofs.WriteTurns.{drop_sets}
use Rattle.book.specs.Tables.{padded, table_row, others, partner_column}
use Rattle.book.proofs.Rows.{length_spread, length_row, others_row}

-- a row that does not reach its own column yet
row_low : (j k : ℕ) (cs : List ℕ) → length cs ≡ k → k ≤ j → k < 16 → table_row j cs ≡ cs ++ replicate (16 - k) 0
unfolding table_row
row_low j k cs e h few =
    let all : take j cs ≡ cs = take_all j cs (omega arith) in
    let none : drop j cs ≡ [] = drop_of_length-le cs {i = j} (omega arith) in
    let zeros : suc (16 - length (cs ++ (0 ∷ []))) ≡ 16 - k = omega (arith, length-append cs (0 ∷ [])) in
    ap₂ (λ (a b : List ℕ). padded 16 (a ++ 0 ∷ b)) all none
    ∙ append_snoc cs 0 (replicate (16 - length (cs ++ (0 ∷ []))) 0)
    ∙ ap (λ (m : ℕ). cs ++ replicate m 0) zeros

pub row_none : (j : ℕ) → table_row j [] ≡ replicate 16 0
row_none j = row_low j 0 [] refl (omega arith) (omega arith)

row_before_own : (j k v : ℕ) (cs : List ℕ) → length cs ≡ k → k < 15 → k < j → set (table_row j cs) k v ≡ table_row j (cs ++ (v ∷ []))
row_before_own j k v cs e few lt =
    let open_one : 16 - k ≡ suc (15 - k) = omega arith in
    let left : 15 - k ≡ 16 - (k + 1) = omega arith in
    let long : length (cs ++ (v ∷ [])) ≡ k + 1 = omega (arith, length-append cs (v ∷ [])) in
    ap (λ (l : List ℕ). set l k v) (row_low j k cs e (omega arith) (omega arith) ∙ ap (λ (m : ℕ). cs ++ replicate m 0) open_one)
    ∙ set_at cs 0 (replicate (15 - k) 0) v k e
    ∙ sym (append_snoc cs v (replicate (15 - k) 0))
    ∙ ap (λ (m : ℕ). (cs ++ (v ∷ [])) ++ replicate m 0) left
    ∙ sym (row_low j (k + 1) (cs ++ (v ∷ [])) long (omega arith) (omega arith))

row_after_own : (j k v : ℕ) (cs : List ℕ) → length cs ≡ k → k < 15 → j ≤ k → set (table_row j cs) (k + 1) v ≡ table_row j (cs ++ (v ∷ []))
unfolding table_row
row_after_own j k v cs e few ge =
    let p : List ℕ = take j cs ++ 0 ∷ drop j cs in
    let lp : length p ≡ k + 1 = omega (arith, length_spread j cs) in
    let open_one : 16 - length p ≡ suc (14 - k) = omega arith in
    let on : p ++ (v ∷ []) ≡ take j (cs ++ (v ∷ [])) ++ 0 ∷ drop j (cs ++ (v ∷ [])) =
    append_assoc (take j cs) (0 ∷ drop j cs) (v ∷ [])
    ∙ sym
    (ap₂ (λ (a b : List ℕ). a ++ 0 ∷ b) (take-append-le j cs (v ∷ []) (omega arith)) (drop-append-le j cs (v ∷ []) (omega arith))) in
    let left : 14 - k ≡ 16 - length (p ++ (v ∷ [])) = omega (arith, length-append p (v ∷ [])) in
    ap (λ (m : ℕ). set (p ++ replicate m 0) (k + 1) v) open_one
    ∙ set_at p 0 (replicate (14 - k) 0) v (k + 1) lp
    ∙ sym (append_snoc p v (replicate (14 - k) 0))
    ∙ ap (λ (m : ℕ). (p ++ (v ∷ [])) ++ replicate m 0) left
    ∙ ap (padded 16) on

-- a counter more, in the column of the k-th of the others
pub row_put : (j k v : ℕ) (cs : List ℕ) → length cs ≡ k → k < 15 → set (table_row j cs) (partner_column j k) v ≡ table_row j (cs ++ (v ∷ []))
unfolding partner_column
row_put j k v cs e few =
    elim (dec_lt k j) [
      | yes lt ↦ rw (lt-ltb k j lt) (row_before_own j k v cs e few lt)
      | no ge ↦ rw (le-ltb k j (omega arith)) (row_after_own j k v cs e few (omega arith))
    ]

-- the counters of a row, read back
pub others_put : (n j start : ℕ) (cs table : List ℕ) → j < n → n ≤ 16 → length cs ≡ n - 1 → start + 16 ≤ length table
    → others n j (drop start (sets table start (table_row j cs))) ≡ cs
others_put n j start cs table h k long room =
    let wide : length (table_row j cs) ≡ 16 = length_row j cs (omega arith) in
    ap (others n j) (drop_sets (table_row j cs) table start (omega arith))
    ∙ others_row n j cs (drop (start + length (table_row j cs)) table) h k long
