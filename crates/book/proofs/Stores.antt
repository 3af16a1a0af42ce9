-- Zeros stored up to an entry, and a table whose rows are followed by zeros.
use mathlib.Core.Path.{◌≡◌, sym, ap, ap₂, ◌∙◌}
use mathlib.Core.List.{List, [], ◌++◌, append-nil, append_assoc}
use Prim.Native.Nat.{ℕ, ◌+◌, ◌-◌, ◌*◌, ◌≤◌}
use native.Mathlib.Omega.{arith}
use lib.ListN.{length, take, drop, replicate, length-append, length-drop, length-replicate, drop_of_length-le}
use lib.Seq.{sets, sets-eq, length-take-le, drop-drop}
use borrow.Rule.Slice.PartMut.{put_mid}
use Rattle.lists.proofs.Stores.{sets_append}
use Rattle.book.specs.Tables.{padded}

-- zeros stored from one entry up to another
pub cleared : (table zeros : List ℕ) (from to : ℕ) → from ≤ to → to ≤ length table
    → zeros ≡ replicate (length (take (to - from) (drop from table))) 0
    → put_mid from (to - from) table zeros ≡ sets table from (replicate (to - from) 0)
cleared table zeros from to h within e =
    let many : ℕ = to - from in
    let none : List ℕ = replicate many 0 in
    let long : length (take many (drop from table)) ≡ many = length-take-le many (drop from table) (omega (arith, length-drop from table)) in
    let size : length none ≡ many = length-replicate {A = ℕ} many 0 in
    ap₂ (λ (l r : List ℕ). take from table ++ (l ++ r)) (e ∙ ap (λ (m : ℕ). replicate {A = ℕ} m 0) long)
    (drop-drop many from table ∙ ap (λ (m : ℕ). drop (from + m) table) (sym size))
    ∙ sym (append_assoc (take from table) none (drop (from + length none) table))
    ∙ sym (sets-eq none table from (omega (arith, size)))

-- rows, then zeros to the end
pub whole_table : (t₀ t₁ t₂ rows : List ℕ) (r : ℕ) → length t₀ ≡ 4096 → r ≤ 256 → length rows ≡ r * 16 → t₁ ≡ sets t₀ 0 rows
    → t₂ ≡ sets t₁ (r * 16) (replicate (4096 - r * 16) 0) → t₂ ≡ padded 4096 rows
whole_table t₀ t₁ t₂ rows r long few wide put clear =
    let zeros : List ℕ = replicate (4096 - length rows) 0 in
    let place : r * 16 ≡ 0 + length rows = omega (arith, wide) in
    let all : length (rows ++ zeros) ≡ 4096 = length-append rows zeros ∙ omega (arith, length-replicate {A = ℕ} (4096 - length rows) 0) in
    let none : drop (0 + length (rows ++ zeros)) t₀ ≡ [] = drop_of_length-le t₀ {i = 0 + length (rows ++ zeros)} (omega (arith, all)) in
    clear
    ∙ ap₂ (λ (l : List ℕ) (k : ℕ). sets l (r * 16) (replicate (4096 - k) 0)) put (sym wide)
    ∙ ap (λ (k : ℕ). sets (sets t₀ 0 rows) k zeros) place
    ∙ sets_append rows zeros t₀ 0
    ∙ sets-eq (rows ++ zeros) t₀ 0 (omega (arith, all))
    ∙ ap (λ (l : List ℕ). (rows ++ zeros) ++ l) none
    ∙ append-nil (rows ++ zeros)
