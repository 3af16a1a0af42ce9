-- Rows of tables and checkpoints of books: their lengths, and the counters of a row for the other processes.
use mathlib.Core.Path.{◌≡◌, refl, sym, ap, ◌∙◌}
use mathlib.Core.List.{List, [], ◌∷◌, ◌++◌, append_assoc}
use Prim.Native.Nat.{ℕ, zero, suc, ◌+◌, ◌-◌, ◌*◌, ◌≤◌, ◌<◌}
use native.Mathlib.Nat.{zero-add, suc-add}
use native.Mathlib.Decide.{dec_lt}
use native.Mathlib.Omega.{arith}
use borrow.Author.Tests.{lt-ltb, le-ltb}
use lib.ListN.{length, take, drop, get_or, replicate, length-append, length-take, length-drop, length-replicate, take-append-drop, get_or-append}
use lib.Seq.{length-take-le, take_at, get_or-append-add, get_or-drop, get_or-take, drop-drop, take-nil}
use Rattle.book.specs.Layout.{checkpoints_in}
use Rattle.book.specs.Tables.{table_row, others, partner_column, checkpoints_of}

-- a book's numbers hold as many checkpoints as are asked for
pub length_in : (c w : ℕ) (vs : List ℕ) → length (checkpoints_in c w vs) ≡ c
unfolding checkpoints_in
length_in zero w vs = refl
length_in (suc c) w vs = ap suc (length_in c w (drop w vs))

-- and tables as many as their rows say
pub length_checkpoints_of : (n j count : ℕ) (sent received : List ℕ) → length (checkpoints_of n j count sent received) ≡ count
unfolding checkpoints_of
length_checkpoints_of n j zero sent received = refl
length_checkpoints_of n j (suc count) sent received = ap suc (length_checkpoints_of n j count (drop 16 sent) (drop 16 received))

-- a row with the own column in its place
pub length_spread : (j : ℕ) (cs : List ℕ) → length (take j cs ++ 0 ∷ drop j cs) ≡ suc (length cs)
length_spread j cs = simp (length-append, length-take, length-drop) (omega arith)

pub length_row : (j : ℕ) (cs : List ℕ) → length cs < 16 → length (table_row j cs) ≡ 16
unfolding table_row
length_row j cs h =
    length-append (take j cs ++ 0 ∷ drop j cs) _
    ∙ omega (arith, length_spread j cs, length-replicate {A = ℕ} (16 - length (take j cs ++ 0 ∷ drop j cs)) 0)

pub length_others : (n j : ℕ) (row : List ℕ) → j < n → n ≤ length row → length (others n j row) ≡ n - 1
unfolding others
length_others n j row h k = simp (length-append, length-drop, length-take) (omega arith)

drop_past : (p q : List ℕ) (x n : ℕ) → length p ≡ n → drop (suc n) (p ++ x ∷ q) ≡ q
drop_past [] q x zero h = refl
drop_past [] q x (suc n) h = absurd (omega arith)
drop_past (y ∷ p) q x zero h = absurd (omega arith)
drop_past (y ∷ p) q x (suc n) h = drop_past p q x n (omega arith)

-- the counters of a row that begins the list, read back
pub others_row : (n j : ℕ) (cs rest : List ℕ) → j < n → n ≤ 16 → length cs ≡ n - 1 → others n j (table_row j cs ++ rest) ≡ cs
unfolding others table_row
others_row n j cs rest h k long =
    let a : List ℕ = take j cs ++ 0 ∷ drop j cs in
    let pad : List ℕ = replicate (16 - length a) 0 in
    let la : length a ≡ n = length_spread j cs ∙ omega arith in
    let lj : length (take j cs) ≡ j = length-take-le j cs (omega arith) in
    rw (
      append_assoc a pad rest,
      take_at a (pad ++ rest) n la,
      append_assoc (take j cs) (0 ∷ drop j cs) (pad ++ rest),
      take_at (take j cs) (0 ∷ drop j cs ++ (pad ++ rest)) j lj,
      drop_past (take j cs) (drop j cs) 0 j lj,
      take-append-drop j cs,
    )

-- the k-th of the others stands in its column
pub get_d_others : (n j k : ℕ) (row : List ℕ) → j < n → n ≤ length row → k < n - 1 → get_or (others n j row) k 0 ≡ get_or row (partner_column j k) 0
unfolding others partner_column
get_d_others n j k row h long i = elim (dec_lt k j) [ yes lt ↦ low lt | no ge ↦ high (omega arith) ]
  where
    len : length (take j row) ≡ j
    len = length-take-le j row (omega arith)

    low : k < j → get_or (others n j row) k 0 ≡ get_or row (partner_column j k) 0
    low lt =
        rw (lt-ltb k j lt)
        (get_or-append (take j row) (drop (suc j) (take n row)) 0 k (rw len lt) ∙ get_or-take j row k 0 lt)

    high : j ≤ k → get_or (others n j row) k 0 ≡ get_or row (partner_column j k) 0
    high le =
        let split : k ≡ length (take j row) + (k - j) = rw len (omega arith) in
        let there : suc j + (k - j) ≡ k + 1 = omega arith in
        rw (le-ltb k j le)
        (ap (λ (i : ℕ). get_or (others n j row) i 0) split
        ∙ get_or-append-add (take j row) (drop (suc j) (take n row)) (k - j) 0
        ∙ get_or-drop (suc j) (take n row) (k - j) 0
        ∙ ap (λ (i : ℕ). get_or (take n row) i 0) there
        ∙ get_or-take n row (k + 1) 0 (omega arith))

-- the rows of so many checkpoints are skipped
pub drop_rows : (first count : ℕ) (table : List ℕ) → drop (count * 16) (drop (first * 16) table) ≡ drop ((first + count) * 16) table
drop_rows first count table =
    let at : first * 16 + count * 16 ≡ (first + count) * 16 = omega arith in
    drop-drop (count * 16) (first * 16) table ∙ ap (λ (i : ℕ). drop i table) at

-- a column is no further than one past its place among the others
pub column_within : (j k : ℕ) → partner_column j k ≤ k + 1
unfolding partner_column
column_within j k = elim (dec_lt k j) [ yes h ↦ rw (lt-ltb k j h) (omega arith) | no h ↦ rw (le-ltb k j (omega arith)) (omega arith) ]

-- a part cut off behind is the same before and after the front goes
pub drop_take : (s m : ℕ) (l : List ℕ) → drop s (take (s + m) l) ≡ take m (drop s l)
drop_take zero m l = rw zero-add
drop_take (suc s) m [] = rw suc-add (sym (take-nil m))
drop_take (suc s) m (x ∷ l) = rw suc-add (drop_take s m l)
