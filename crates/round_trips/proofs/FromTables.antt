-- The processes that tables hold, put into tables again.
use mathlib.Core.Path.{◌≡◌, refl, sym}
use mathlib.Core.Bool.{true}
use mathlib.Core.List.{List, [], ◌∷◌, ◌++◌}
use Prim.Native.Nat.{ℕ, zero, suc, ◌+◌, ◌-◌, ◌*◌, ◌≤◌, ◌<◌}
use native.Mathlib.Omega.{arith}
use borrow.Author.Tests.{eqb-true}
use lib.ListN.{length, take, drop, get_or, length-append, length-drop}
use lib.Seq.{take_at, drop_at, take-add, drop-drop}
use Rattle.book.specs.Layout.{width}
use Rattle.book.specs.Tables.{table_row, process_rows, rows_from, counts_of, others, checkpoints_of, processes_of}
use Rattle.book.specs.View.{sum}
use Rattle.book.specs.Questions.{all_zero, unused_of, unused_from}
use Rattle.book.proofs.Rows.{length_others}
use Rattle.round_trips.proofs.Zeros.{zero_cons, append_zeros}
use Rattle.book.proofs.Rows.{length_checkpoints_of}
use Rattle.round_trips.proofs.Numbers.{Wide, AllWide}
use Rattle.round_trips.proofs.Row.{row_others}

-- ---- how many processes, checkpoints and counters

pub counts_of_processes_of : (n j : ℕ) (counts s r : List ℕ) → counts_of (processes_of n j counts s r) ≡ counts
unfolding counts_of processes_of
counts_of_processes_of n j [] s r = refl
counts_of_processes_of n j (c ∷ counts) s r =
    rw (length_checkpoints_of n j c s r, counts_of_processes_of n (suc j) counts (drop (c * 16) s) (drop (c * 16) r))

wide_checkpoints_of : (n j count : ℕ) (s r : List ℕ) → j < n → n ≤ 16 → count * 16 ≤ length s → count * 16 ≤ length r
    → Wide (width n) (checkpoints_of n j count s r)
unfolding checkpoints_of
wide_checkpoints_of n j zero s r h k a b i m = absurd (omega arith)
wide_checkpoints_of n j (suc count) s r h k a b zero m =
    let x : length (others n j s) ≡ n - 1 = length_others n j s h (omega arith) in
    let y : length (others n j r) ≡ n - 1 = length_others n j r h (omega arith) in
    rw (length-append (others n j s) (others n j r)) (omega arith)
wide_checkpoints_of n j (suc count) s r h k a b (suc i) m =
    wide_checkpoints_of n j count (drop 16 s) (drop 16 r) h k (rw (length-drop 16 s) (omega arith)) (rw (length-drop 16 r) (omega arith)) i (omega arith)

pub wide_processes_of : (n j : ℕ) (counts s r : List ℕ) → j + length counts ≤ n → n ≤ 16 → sum counts * 16 ≤ length s
    → sum counts * 16 ≤ length r → AllWide (width n) (processes_of n j counts s r)
unfolding processes_of sum
wide_processes_of n j [] s r h k a b i q m p = absurd (omega arith)
wide_processes_of n j (c ∷ counts) s r h k a b zero q m p = wide_checkpoints_of n j c s r (omega arith) k (omega arith) (omega arith) q p
wide_processes_of n j (c ∷ counts) s r h k a b (suc i) q m p =
    wide_processes_of n (suc j) counts (drop (c * 16) s) (drop (c * 16) r) (omega arith) k (rw (length-drop (c * 16) s) (omega arith))
    (rw (length-drop (c * 16) r) (omega arith)) i q (omega arith) p

-- ---- the unused entries are zero

record RowZero (n j count : ℕ) (table : List ℕ) : Type 0 where
  own : get_or table j 0 ≡ 0
  absent : all_zero (drop n (take 16 table)) ≡ true
  later : all_zero (unused_of n j count (drop 16 table)) ≡ true

row_zero : (n j count : ℕ) (table : List ℕ) → all_zero (unused_of n j (suc count) table) ≡ true → RowZero n j count table
unfolding unused_of
row_zero n j count table z =
    let rest : List ℕ = unused_of n j count (drop 16 table) in
    let a = zero_cons (get_or table j 0) (drop n (take 16 table) ++ rest) z in
    let b = append_zeros (drop n (take 16 table)) rest a.1 in
    record { own = eqb-true (get_or table j 0) 0 a.0; absent = b.0; later = b.1 }

from_zero : (n j c : ℕ) (counts table : List ℕ) → all_zero (unused_from n j (c ∷ counts) table) ≡ true
    → (all_zero (unused_of n j c table) ≡ true) × (all_zero (unused_from n (suc j) counts (drop (c * 16) table)) ≡ true)
unfolding unused_from
from_zero n j c counts table z = append_zeros (unused_of n j c table) (unused_from n (suc j) counts (drop (c * 16) table)) z

-- the rows after the last checkpoint
pub unused_rest : (n j : ℕ) (counts table : List ℕ) → all_zero (unused_from n j counts table) ≡ true
    → all_zero (drop (sum counts * 16) table) ≡ true
unfolding unused_from sum
unused_rest n j [] table z = z
unused_rest n j (c ∷ counts) table z =
    let e : (c + sum counts) * 16 ≡ c * 16 + sum counts * 16 = omega arith in
    rw (e, ← drop-drop (sum counts * 16) (c * 16) table)
    (unused_rest n (suc j) counts (drop (c * 16) table) (from_zero n j c counts table z).1)

-- ---- the rows

first_row : (n j count : ℕ) (table : List ℕ) → j < n → n ≤ 16 → suc count * 16 ≤ length table → RowZero n j count table
    → table_row j (others n j table) ++ take (count * 16) (drop 16 table) ≡ take (suc count * 16) table
first_row n j count table h k long z =
    let e : suc count * 16 ≡ 16 + count * 16 = omega arith in
    rw (row_others n j table h k (omega arith) z.own z.absent, e) (sym (take-add 16 (count * 16) table))

checkpoints_rows : (n j count : ℕ) (s r : List ℕ) → j < n → n ≤ 16 → count * 16 ≤ length s → count * 16 ≤ length r
    → all_zero (unused_of n j count s) ≡ true → all_zero (unused_of n j count r) ≡ true
    → (process_rows (take (n - 1)) j (checkpoints_of n j count s r) ≡ take (count * 16) s)
    × (process_rows (drop (n - 1)) j (checkpoints_of n j count s r) ≡ take (count * 16) r)
unfolding checkpoints_of process_rows
checkpoints_rows n j zero s r h k a b y z = (refl, refl)
checkpoints_rows n j (suc count) s r h k a b y z =
    let x : List ℕ = others n j s in
    let w : List ℕ = others n j r in
    let lx : length x ≡ n - 1 = length_others n j s h (omega arith) in
    let s_zero = row_zero n j count s y in
    let r_zero = row_zero n j count r z in
    let ih = checkpoints_rows n j count (drop 16 s) (drop 16 r) h k (rw (length-drop 16 s) (omega arith))
    (rw (length-drop 16 r) (omega arith)) s_zero.later r_zero.later in (
      rw (take_at x w (n - 1) lx, ih.0) (first_row n j count s h k a s_zero),
      rw (drop_at x w (n - 1) lx, ih.1) (first_row n j count r h k b r_zero),
    )

pub processes_rows : (n j : ℕ) (counts s r : List ℕ) → j + length counts ≤ n → n ≤ 16 → sum counts * 16 ≤ length s
    → sum counts * 16 ≤ length r → all_zero (unused_from n j counts s) ≡ true → all_zero (unused_from n j counts r) ≡ true
    → (rows_from (take (n - 1)) j (processes_of n j counts s r) ≡ take (sum counts * 16) s)
    × (rows_from (drop (n - 1)) j (processes_of n j counts s r) ≡ take (sum counts * 16) r)
unfolding processes_of rows_from sum
processes_rows n j [] s r h k a b y z = (refl, refl)
processes_rows n j (c ∷ counts) s r h k a b y z =
    let e : (c + sum counts) * 16 ≡ c * 16 + sum counts * 16 = omega arith in
    let s_zero = from_zero n j c counts s y in
    let r_zero = from_zero n j c counts r z in
    let own = checkpoints_rows n j c s r (omega arith) k (omega arith) (omega arith) s_zero.0 r_zero.0 in
    let ih = processes_rows n (suc j) counts (drop (c * 16) s) (drop (c * 16) r) (omega arith) k
    (rw (length-drop (c * 16) s) (omega arith)) (rw (length-drop (c * 16) r) (omega arith)) s_zero.1 r_zero.1 in (
      rw (own.0, ih.0, e) (sym (take-add (c * 16) (sum counts * 16) s)),
      rw (own.1, ih.1, e) (sym (take-add (c * 16) (sum counts * 16) r)),
    )
