-- The tables of processes hold those processes, and nothing else in them differs from zero.
use mathlib.Core.Path.{◌≡◌, refl, ap}
use mathlib.Core.Bool.{true}
use mathlib.Core.List.{List, [], ◌∷◌, ◌++◌, append_assoc}
use Prim.Native.Nat.{ℕ, suc, ◌+◌, ◌-◌, ◌*◌, ◌≤◌, ◌<◌}
use native.Mathlib.Omega.{arith}
use lib.ListN.{length, take, drop, length-append, length-drop, take-append-drop}
use lib.Seq.{length-take-le, drop_at}
use Rattle.book.specs.Layout.{width}
use Rattle.book.specs.Tables.{table_row, process_rows, rows_from, counts_of, checkpoints_of, processes_of}
use Rattle.book.specs.View.{sum}
use Rattle.book.specs.Questions.{all_zero, unused_of, unused_from}
use Rattle.book.proofs.Rows.{length_row, others_row}
use Rattle.round_trips.proofs.Zeros.{zeros_append}
use Rattle.round_trips.proofs.Numbers.{Wide, AllWide}
use Rattle.round_trips.proofs.Row.{row_own, row_absent}

pub length_counts_of : (ps : List (List (List ℕ))) → length (counts_of ps) ≡ length ps
unfolding counts_of
length_counts_of [] = refl
length_counts_of (cs ∷ ps) = ap suc (length_counts_of ps)

-- a checkpoint's sent and received counters
pub length_sent : (n : ℕ) (c : List ℕ) → length c ≡ width n → length (take (n - 1) c) ≡ n - 1
length_sent n c h = length-take-le (n - 1) c (omega arith)

pub length_received : (n : ℕ) (c : List ℕ) → length c ≡ width n → length (drop (n - 1) c) ≡ n - 1
length_received n c h = rw (length-drop (n - 1) c) (omega arith)

-- ---- one of the two tables

module _ (half : List ℕ → List ℕ) (n : ℕ) (few : n ≤ 16) (halves : (c : List ℕ) → length c ≡ width n → length (half c) ≡ n - 1) where
  pub length_process_rows : (j : ℕ) (cs : List (List ℕ)) → j < n → Wide (width n) cs → length (process_rows half j cs) ≡ length cs * 16
  unfolding process_rows
  length_process_rows j [] k h = refl
  length_process_rows j (c ∷ cs) k h =
      let l : length (half c) ≡ n - 1 = halves c (h 0 (omega arith)) in
      let ih : length (process_rows half j cs) ≡ length cs * 16 = length_process_rows j cs k (λ r m. h (suc r) (omega arith)) in
      rw (length-append (table_row j (half c)) (process_rows half j cs), length_row j (half c) (omega arith)) (omega arith)

  pub length_rows_from : (j : ℕ) (ps : List (List (List ℕ))) → j + length ps ≤ n → AllWide (width n) ps
      → length (rows_from half j ps) ≡ sum (counts_of ps) * 16
  unfolding rows_from counts_of sum
  length_rows_from j [] k h = refl
  length_rows_from j (cs ∷ ps) k h =
      let l : length (process_rows half j cs) ≡ length cs * 16 = length_process_rows j cs (omega arith) (λ r m. h 0 r (omega arith) m) in
      let ih : length (rows_from half (suc j) ps) ≡ sum (counts_of ps) * 16
      = length_rows_from (suc j) ps (omega arith) (λ i r m p. h (suc i) r (omega arith) p) in
      rw (length-append (process_rows half j cs) (rows_from half (suc j) ps)) (omega arith)

  unused_process : (j : ℕ) (cs : List (List ℕ)) (rest : List ℕ) → j < n → Wide (width n) cs
      → all_zero (unused_of n j (length cs) (process_rows half j cs ++ rest)) ≡ true
  unfolding process_rows unused_of all_zero
  unused_process j [] rest k h = refl
  unused_process j (c ∷ cs) rest k h =
      let row : List ℕ = table_row j (half c) in
      let later : List ℕ = process_rows half j cs ++ rest in
      let l : length (half c) ≡ n - 1 = halves c (h 0 (omega arith)) in
      rw (
        append_assoc row (process_rows half j cs) rest,
        row_own n j (half c) later k few l,
        drop_at row later 16 (length_row j (half c) (omega arith)),
      )
      (zeros_append (drop n (take 16 (row ++ later))) (unused_of n j (length cs) later) (row_absent n j (half c) later k few l)
      (unused_process j cs rest k (λ r m. h (suc r) (omega arith))))

  pub unused_processes : (j : ℕ) (ps : List (List (List ℕ))) (rest : List ℕ) → j + length ps ≤ n → AllWide (width n) ps
      → all_zero rest ≡ true → all_zero (unused_from n j (counts_of ps) (rows_from half j ps ++ rest)) ≡ true
  unfolding rows_from counts_of unused_from
  unused_processes j [] rest k h z = z
  unused_processes j (cs ∷ ps) rest k h z =
      let rows : List ℕ = process_rows half j cs in
      let later : List ℕ = rows_from half (suc j) ps ++ rest in
      let wide : Wide (width n) cs = λ r m. h 0 r (omega arith) m in
      rw (append_assoc rows (rows_from half (suc j) ps) rest, drop_at rows later (length cs * 16) (length_process_rows j cs (omega arith) wide))
      (zeros_append (unused_of n j (length cs) (rows ++ later)) (unused_from n (suc j) (counts_of ps) later)
      (unused_process j cs later (omega arith) wide)
      (unused_processes (suc j) ps rest (omega arith) (λ i r m p. h (suc i) r (omega arith) p) z))

-- ---- both tables

module _ (n : ℕ) (few : n ≤ 16) where
  checkpoints_back : (j : ℕ) (cs : List (List ℕ)) (s r : List ℕ) → j < n → Wide (width n) cs
      → checkpoints_of n j (length cs) (process_rows (take (n - 1)) j cs ++ s) (process_rows (drop (n - 1)) j cs ++ r) ≡ cs
  unfolding checkpoints_of process_rows
  checkpoints_back j [] s r k h = refl
  checkpoints_back j (c ∷ cs) s r k h =
      let a : List ℕ = take (n - 1) c in
      let b : List ℕ = drop (n - 1) c in
      let s' : List ℕ = process_rows (take (n - 1)) j cs ++ s in
      let r' : List ℕ = process_rows (drop (n - 1)) j cs ++ r in
      let la : length a ≡ n - 1 = length_sent n c (h 0 (omega arith)) in
      let lb : length b ≡ n - 1 = length_received n c (h 0 (omega arith)) in
      rw (
        append_assoc (table_row j a) (process_rows (take (n - 1)) j cs) s,
        append_assoc (table_row j b) (process_rows (drop (n - 1)) j cs) r,
        others_row n j a s' k few la,
        others_row n j b r' k few lb,
        take-append-drop (n - 1) c,
        drop_at (table_row j a) s' 16 (length_row j a (omega arith)),
        drop_at (table_row j b) r' 16 (length_row j b (omega arith)),
        checkpoints_back j cs s r k (λ i m. h (suc i) (omega arith)),
      )

  pub processes_back : (j : ℕ) (ps : List (List (List ℕ))) (s r : List ℕ) → j + length ps ≤ n → AllWide (width n) ps
      → processes_of n j (counts_of ps) (rows_from (take (n - 1)) j ps ++ s) (rows_from (drop (n - 1)) j ps ++ r) ≡ ps
  unfolding processes_of rows_from counts_of
  processes_back j [] s r k h = refl
  processes_back j (cs ∷ ps) s r k h =
      let a : List ℕ = process_rows (take (n - 1)) j cs in
      let b : List ℕ = process_rows (drop (n - 1)) j cs in
      let s' : List ℕ = rows_from (take (n - 1)) (suc j) ps ++ s in
      let r' : List ℕ = rows_from (drop (n - 1)) (suc j) ps ++ r in
      let wide : Wide (width n) cs = λ i m. h 0 i (omega arith) m in
      let la : length a ≡ length cs * 16 = length_process_rows (take (n - 1)) n few (length_sent n) j cs (omega arith) wide in
      let lb : length b ≡ length cs * 16 = length_process_rows (drop (n - 1)) n few (length_received n) j cs (omega arith) wide in
      rw (
        append_assoc a (rows_from (take (n - 1)) (suc j) ps) s,
        append_assoc b (rows_from (drop (n - 1)) (suc j) ps) r,
        checkpoints_back j cs s' r' (omega arith) wide,
        drop_at a s' (length cs * 16) la,
        drop_at b r' (length cs * 16) lb,
        processes_back (suc j) ps s r (omega arith) (λ i m p q. h (suc i) m (omega arith) q),
      )
