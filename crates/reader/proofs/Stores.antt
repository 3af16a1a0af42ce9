-- Stores into a table: a store within a run, what a run leaves as it was, and runs of zeros on zeros.
use mathlib.Core.Path.{◌≡◌, refl, sym, ap, ◌∙◌}
use mathlib.Core.List.{List, [], ◌∷◌, ◌++◌}
use Prim.Native.Nat.{ℕ, zero, suc, ◌+◌, ◌-◌, ◌≤◌, ◌<◌}
use native.Mathlib.Omega.{arith}
use lib.ListN.{length, drop, set, replicate, length-replicate}
use lib.Seq.{sets, sets-eq, set_comm, set-set, set-get_or}
use Rattle.lists.proofs.Over.{replicate_at}
use Rattle.lists.proofs.Stores.{get_d_past}
use Rattle.book.specs.Tables.{padded}
use Rattle.reader.specs.Parts.{ClearFrom, empty_table}

-- a store before a run
set_below : (vs l : List ℕ) (k i v : ℕ) → i < k → set (sets l k vs) i v ≡ sets (set l i v) k vs
set_below [] l k i v h = refl
set_below (x ∷ vs) l k i v h =
    set_below vs (set l k x) (suc k) i v (omega arith)
    ∙ ap (λ (m : List ℕ). sets m (suc k) vs) (set_comm l k i x v (λ e. omega arith))

-- a store within a run
pub set_within : (vs l : List ℕ) (i m c v : ℕ) → m < length vs → c ≡ i + m → set (sets l i vs) c v ≡ sets l i (set vs m v)
set_within [] l i m c v h e = absurd (omega arith)
set_within (x ∷ vs) l i zero c v h e =
    let here : c ≡ i = omega arith in
    rw here
    (set_below vs (set l i x) (suc i) i v (omega arith) ∙ ap (λ (m : List ℕ). sets m (suc i) vs) (set-set l i x v))
set_within (x ∷ vs) l i (suc m) c v h e = set_within vs (set l i x) (suc i) m c v (omega arith) (omega arith)

-- after a run the table is as clear as it was
pub clear_past : (vs l : List ℕ) (start : ℕ) → ClearFrom start l → ClearFrom (start + length vs) (sets l start vs)
clear_past vs l start h i k = get_d_past vs l start i k ∙ h i (omega arith)

-- zeros on zeros change nothing
pub clear_same : (m start : ℕ) (l : List ℕ) → ClearFrom start l → sets l start (replicate m 0) ≡ l
clear_same zero start l h = refl
clear_same (suc m) start l h =
    let same : set l start 0 ≡ l = ap (λ (v : ℕ). set l start v) (sym (h start (omega arith))) ∙ set-get_or l start 0 in
    ap (λ (t : List ℕ). sets t (suc start) (replicate m 0)) same ∙ clear_same m (suc start) l (λ i k. h i (omega arith))

drop_zeros : (k m : ℕ) → drop {A = ℕ} k (replicate m 0) ≡ replicate (m - k) 0
drop_zeros zero m = let e : m - 0 ≡ m = omega arith in rw e
drop_zeros (suc k) zero = let e : 0 - suc k ≡ 0 = omega arith in rw e
drop_zeros (suc k) (suc m) = let e : suc m - suc k ≡ m - k = omega arith in rw e (drop_zeros k m)

sets_zeros : (m : ℕ) (rows : List ℕ) → length rows ≤ m → sets (replicate m 0) 0 rows ≡ padded m rows
sets_zeros m rows h =
    let place : 0 + length rows ≡ length rows = omega arith in
    sets-eq rows (replicate m 0) 0 (omega (arith, length-replicate {A = ℕ} m 0))
    ∙ ap (λ (k : ℕ). rows ++ drop k (replicate m 0)) place
    ∙ ap (λ (l : List ℕ). rows ++ l) (drop_zeros (length rows) m)

-- an empty table
empty_long : length empty_table ≡ 4096
unfolding empty_table
empty_long = length-replicate {A = ℕ} 4096 0

pub empty_length : (table : List ℕ) → table ≡ empty_table → length table ≡ 4096
empty_length table e = ap length e ∙ empty_long

pub empty_clear : (start : ℕ) → ClearFrom start empty_table
unfolding empty_table
empty_clear start i h = replicate_at 4096 0 i

-- rows in an empty table, with zeros after them
pub empty_rows : (rows : List ℕ) → length rows ≤ 4096 → sets empty_table 0 rows ≡ padded 4096 rows
unfolding empty_table
empty_rows rows h = sets_zeros 4096 rows h
