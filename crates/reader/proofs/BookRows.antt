-- The rows of the book's processes in a table: those of a process more, and all of them.
use mathlib.Core.Path.{◌≡◌, refl, sym, ap, ap₂, ◌∙◌}
use mathlib.Core.List.{List, [], ◌∷◌, ◌++◌, append_assoc, append-nil}
use Prim.Native.Nat.{ℕ, zero, suc, ◌+◌, ◌*◌, ◌-◌, ◌≤◌, ◌<◌}
use native.Mathlib.Nat.{add-mul, suc-mul}
use native.Mathlib.Numerals.{add-one}
use native.Mathlib.Omega.{arith}
use lib.ListN.{length, take, drop, length-append, length-drop, length-take}
use lib.Seq.{sets, length-sets, length-take-le}
use Rattle.book.specs.Tables.{padded, table_row, process_rows, rows_from}
use Rattle.book.specs.Layout.{width, checkpoints_in, processes_in}
use Rattle.book.proofs.Rows.{length_row}
use Rattle.lists.proofs.Stores.{sets_append}
use Rattle.reader.specs.Parts.{empty_table, with_rows, RowsClear}
use Rattle.reader.proofs.Stores.{clear_past, empty_length, empty_clear, empty_rows}

-- a process's rows are sixteen wide
length_rows : (half : List ℕ → List ℕ) (w : ℕ) → ((cs : List ℕ) → length cs ≡ w → length (half cs) < 16) → (j c : ℕ) (vs : List ℕ) → c * w ≤ length vs
    → length (process_rows half j (checkpoints_in c w vs)) ≡ c * 16
unfolding checkpoints_in process_rows
length_rows half w short j zero vs h = refl
length_rows half w short j (suc c) vs h =
    let room : c * w + w ≤ length vs = rw (suc-mul c w) at h in
    let cs : List ℕ = take w vs in
    let one : length (table_row j (half cs)) ≡ 16 = length_row j (half cs) (short cs (length-take-le w vs (omega arith))) in
    let ih : length (process_rows half j (checkpoints_in c w (drop w vs))) ≡ c * 16 =
    length_rows half w short j c (drop w vs) (rw (length-drop w vs) (omega arith)) in
    length-append (table_row j (half cs)) (process_rows half j (checkpoints_in c w (drop w vs))) ∙ ap₂ (λ (a b : ℕ). a + b) one ih ∙ omega arith

pub sent_short : (n : ℕ) → n ≤ 16 → (cs : List ℕ) → length cs ≡ width n → length (take (n - 1) cs) < 16
sent_short n h cs e = rw (length-take (n - 1) cs) (omega arith)

pub received_short : (n : ℕ) → n ≤ 16 → (cs : List ℕ) → length cs ≡ width n → length (drop (n - 1) cs) < 16
received_short n h cs e = rw (length-drop (n - 1) cs) (omega arith)

rows_next : (half : List ℕ → List ℕ) (j m w c : ℕ) (vs : List ℕ)
    → rows_from half j (processes_in (suc m) w (c ∷ vs)) ≡ process_rows half j (checkpoints_in c w vs) ++ rows_from half (suc j)
    (processes_in m w (drop (c * w) vs))
unfolding processes_in rows_from
rows_next half j m w c vs = refl

rows_none : (half : List ℕ → List ℕ) (j w : ℕ) (vs : List ℕ) → rows_from half j (processes_in 0 w vs) ≡ []
unfolding processes_in rows_from
rows_none half j w vs = refl

-- one table: the rows of the processes so far stand in it
pub record Rows (half : List ℕ → List ℕ) (n first j : ℕ) (whole rest table : List ℕ) : Type 0 where
  pub done : List ℕ
  pub long : length done ≡ first * 16
  pub present : table ≡ sets empty_table 0 done
  pub all : rows_from half 0 (processes_in n (width n) whole) ≡ done ++ rows_from half j (processes_in (n - j) (width n) rest)

pub rows_begun : (half : List ℕ → List ℕ) (n : ℕ) (vs table : List ℕ) → table ≡ empty_table → Rows half n 0 0 vs vs table
rows_begun half n vs table e = let none : n - 0 ≡ n = omega arith in record { done = []; long = refl; present = e; all = rw none }

module _ (half : List ℕ → List ℕ) (n first j : ℕ) (whole rest table : List ℕ) (inv : Rows half n first j whole rest table) where
  pub rows_length : length table ≡ 4096
  rows_length = ap length inv.present ∙ length-sets empty_table 0 inv.done ∙ empty_length empty_table refl

  -- there is room for the next process
  pub rows_clear : j < n → n ≤ 16 → first ≤ 256 → RowsClear n j first 0 table
  rows_clear h most few =
      record {
        present = h;
        most = most;
        whole = rows_length;
        inside = omega arith;
        clear = λ i k. rw inv.present (clear_past inv.done empty_table 0 (empty_clear 0) i (omega (arith, inv.long)));
      }

  pub rows_more : (c : ℕ) (vs table' : List ℕ) → j < n → rest ≡ c ∷ vs → ((cs : List ℕ) → length cs ≡ width n → length (half cs) < 16)
      → c * width n ≤ length vs
      → table' ≡ with_rows half n j first c vs table → Rows half n (first + c) (j + 1) whole
      (drop (c * width n) vs) table'
  rows_more c vs table' h e short room put =
      let rows : List ℕ = process_rows half j (checkpoints_in c (width n) vs) in
      let more : n - j ≡ suc (n - (j + 1)) = omega arith in
      record {
        done = inv.done ++ rows;
        long = length-append inv.done rows ∙ ap₂ (λ (a b : ℕ). a + b) inv.long (length_rows half (width n) short j c vs room) ∙ sym
            (add-mul first c 16);
        present = put ∙ ap₂ (λ (l : List ℕ) (k : ℕ). sets l k rows) inv.present (sym inv.long ∙ omega arith) ∙ sets_append
            inv.done rows empty_table 0;
        all = inv.all ∙ ap₂ (λ (m : ℕ) (l : List ℕ). inv.done ++ rows_from half j (processes_in m (width n) l)) more e
            ∙ ap (λ (l : List ℕ). inv.done ++ l) (rows_next half j (n - (j + 1)) (width n) c vs
            ∙ ap (λ (k : ℕ). rows ++ rows_from half k (processes_in (n - (j + 1)) (width n) (drop (c * width n) vs))) (sym (add-one j)))
            ∙ sym (append_assoc inv.done rows (rows_from half (j + 1) (processes_in (n - (j + 1)) (width n) (drop (c * width n) vs))));
      }

  module _ (h : n ≤ j) where
    rows_all : rows_from half 0 (processes_in n (width n) whole) ≡ inv.done
    rows_all =
        let none : n - j ≡ 0 = omega arith in
        inv.all ∙ ap (λ (m : ℕ). inv.done ++ rows_from half j (processes_in m (width n) rest)) none
        ∙ ap (λ (l : List ℕ). inv.done ++ l) (rows_none half j (width n) rest) ∙ append-nil inv.done

    pub rows_ended : first ≤ 256 → table ≡ padded 4096 (rows_from half 0 (processes_in n (width n) whole))
    rows_ended few =
        let long : length (rows_from half 0 (processes_in n (width n) whole)) ≡ first * 16 = ap length rows_all ∙ inv.long in
        inv.present ∙ ap (sets empty_table 0) (sym rows_all)
        ∙ empty_rows (rows_from half 0 (processes_in n (width n) whole)) (omega arith)
