-- The tables of the book that a view shows, row by row.
use mathlib.Core.Path.{◌≡◌, refl, sym, ap, ap₂, ◌∙◌}
use mathlib.Core.Bool.{true}
use mathlib.Core.List.{List, [], ◌∷◌, ◌++◌, append_assoc, append-nil}
use Prim.Native.Nat.{ℕ, zero, suc, ◌+◌, ◌-◌, ◌≤◌, ◌<◌}
use native.Mathlib.Nat.{add-zero}
use native.Mathlib.Omega.{arith}
use lib.ListN.{length, take, drop, length-drop}
use lib.Seq.{take_all, get_or-drop}
use Rattle.book.specs.declared.Shape.{Shape}
use Rattle.book.specs.Bounds.{most_processes, entries}
use Rattle.book.specs.Questions.{all_zero}
use Rattle.book.specs.Tables.{padded, table_row, process_rows, rows_from, counts_of, others, partner_column}
use Rattle.book.proofs.Zeros.{zero_each}
use Rattle.book.proofs.Rows.{length_others, get_d_others, column_within}
use Rattle.round_trips.proofs.Row.{row_others}
use Rattle.lists.specs.Over.{tab_from, tab}
use Rattle.line_theory.specs.Sets.{View}
use Rattle.lists.proofs.Over.{length_tab, get_d_tab, tab_is, tab_last}
use Rattle.shown.specs.Shown.{counters_shown, book_shown}
use Rattle.shown.specs.Rows.{rows_to, all_rows_to}
use Rattle.shown.specs.Statements.{ZeroElsewhere, ShapeShown, SentRowsShown, ReceivedRowsShown}
use Rattle.shown.proofs.Counters.{sent_half, received_half}

-- ---- one row

-- a row of sixteen that is zero elsewhere is the row of what it holds for the others
row_shown : (n j : ℕ) (f : ℕ → ℕ) → j < n → n ≤ 16 → f j ≡ 0 → ((p : ℕ) → n ≤ p → p < 16 → f p ≡ 0)
    → table_row j (tab (n - 1) (λ k. f (partner_column j k))) ≡ tab 16 f
row_shown n j f h few own absent =
    let row : List ℕ = tab 16 f in
    let long : length row ≡ 16 = length_tab 16 f in
    let same : others n j row ≡ tab (n - 1) (λ k. f (partner_column j k))
    = tab_is 0 (n - 1) (λ k. f (partner_column j k)) (others n j row) (length_others n j row h (omega arith))
    (λ k i. get_d_others n j k row h (omega arith) i ∙ get_d_tab 16 f (partner_column j k) 0 (omega (arith, column_within j k))) in
    let whole : take 16 row ≡ row = take_all 16 row (omega arith) in
    let none : all_zero (drop n row) ≡ true
    = zero_each (drop n row) (λ i m.
    let i' : n + i < 16 = omega (arith, length-drop n row, m) in
    get_or-drop n row i 0 ∙ get_d_tab 16 f (n + i) 0 i' ∙ absent (n + i) (omega arith) i') in
    rw (← same) (row_others n j row h few (omega arith) (get_d_tab 16 f j 0 (omega arith) ∙ own) (rw whole none) ∙ whole)

-- ---- rows after rows

process_rows_append : (half : List ℕ → List ℕ) (j : ℕ) (a b : List (List ℕ))
    → process_rows half j (a ++ b) ≡ process_rows half j a ++ process_rows half j b
unfolding process_rows
process_rows_append half j [] b = refl
process_rows_append half j (c ∷ a) b =
    rw (process_rows_append half j a b) (sym (append_assoc (table_row j (half c)) (process_rows half j a) (process_rows half j b)))

rows_from_append : (half : List ℕ → List ℕ) (j : ℕ) (a b : List (List (List ℕ)))
    → rows_from half j (a ++ b) ≡ rows_from half j a ++ rows_from half (j + length a) b
unfolding rows_from
rows_from_append half j [] b = rw (add-zero j)
rows_from_append half j (cs ∷ a) b =
    let e : j + suc (length a) ≡ suc j + length a = omega arith in
    rw (e, rows_from_append half (suc j) a b)
    (sym (append_assoc (process_rows half j cs) (rows_from half (suc j) a) (rows_from half (suc j + length a) b)))

-- the rows of a process
process_rows_lem : (half : List ℕ → List ℕ) (j : ℕ) (row : ℕ → ℕ → ℕ) (checkpoint : ℕ → List ℕ) (k : ℕ)
    → ((r : ℕ) → r < k → table_row j (half (checkpoint r)) ≡ tab 16 (row (suc r))) → process_rows half j (tab k checkpoint) ≡ rows_to row k
unfolding process_rows rows_to tab_from
process_rows_lem half j row checkpoint zero h = refl
process_rows_lem half j row checkpoint (suc k) h =
    ap (process_rows half j) (tab_last k checkpoint)
    ∙ process_rows_append half j (tab k checkpoint) (checkpoint k ∷ [])
    ∙ ap₂ {C = List ℕ} (λ (a b : List ℕ). a ++ b) (process_rows_lem half j row checkpoint k (λ r m. h r (omega arith)))
    (append-nil (table_row j (half (checkpoint k))) ∙ h k (omega arith))

-- the rows of all processes
all_rows : (half : List ℕ → List ℕ) (count : ℕ → ℕ) (row : ℕ → ℕ → ℕ → ℕ) (process : ℕ → List (List ℕ)) (k : ℕ)
    → ((j : ℕ) → j < k → process_rows half j (process j) ≡ rows_to (row j) (count j))
    → rows_from half 0 (tab k process) ≡ all_rows_to count row k
unfolding rows_from all_rows_to tab_from
all_rows half count row process zero h = refl
all_rows half count row process (suc k) h =
    let e : 0 + length (tab k process) ≡ k = omega (arith, length_tab k process) in
    ap (rows_from half 0) (tab_last k process)
    ∙ rows_from_append half 0 (tab k process) (process k ∷ [])
    ∙ ap₂ {C = List ℕ} (λ (a b : List ℕ). a ++ b) (all_rows half count row process k (λ j m. h j (omega arith)))
    (ap (λ (i : ℕ). rows_from half i (process k ∷ [])) e ∙ append-nil (process_rows half k (process k)) ∙ h k (omega arith))

-- ---- the tables of the book shown

-- one of the two tables
table_rows : (v : View) (half : List ℕ → List ℕ) (row : ℕ → ℕ → ℕ → ℕ)
    → ((j r : ℕ) → half (counters_shown v j r) ≡ tab (v.n - 1) (λ k. row j r (partner_column j k))) → v.n ≤ 16 → ZeroElsewhere v row
    → rows_from half 0 (book_shown v).processes ≡ all_rows_to v.count row v.n
unfolding book_shown
table_rows v half row is few zero_else =
    all_rows half v.count row (λ j. tab (v.count j) (λ r. counters_shown v j (suc r))) v.n (λ j h.
    process_rows_lem half j (row j) (λ r. counters_shown v j (suc r)) (v.count j) (λ r m.
    let zeros = zero_else j (suc r) h (omega arith) m in
    ap (table_row j) (is j (suc r)) ∙ row_shown v.n j (row j (suc r)) h few zeros.0 zeros.1))

pub sent_rows_shown : SentRowsShown
unfolding book_shown
sent_rows_shown v few zero_else = ap (padded entries) (table_rows v (take (v.n - 1)) v.S (sent_half v) few zero_else)

pub received_rows_shown : ReceivedRowsShown
unfolding book_shown
received_rows_shown v few zero_else = ap (padded entries) (table_rows v (drop (v.n - 1)) v.R (received_half v) few zero_else)

-- ---- its shape

counts_tab : (i k : ℕ) (process : ℕ → List (List ℕ)) (count : ℕ → ℕ) → ((j : ℕ) → length (process j) ≡ count j)
    → counts_of (tab_from i k process) ≡ tab_from i k count
unfolding counts_of tab_from
counts_tab i zero process count h = refl
counts_tab i (suc k) process count h = rw (h i, counts_tab (suc i) k process count h)

pub counts_shown : (v : View) → counts_of (book_shown v).processes ≡ tab v.n v.count
unfolding book_shown
counts_shown v =
    counts_tab 0 v.n (λ j. tab (v.count j) (λ r. counters_shown v j (suc r))) v.count
    (λ j. length_tab (v.count j) (λ r. counters_shown v j (suc r)))

pub shape_shown : ShapeShown
unfolding book_shown
shape_shown v = ap {B = Shape} (λ counts. record { n = v.n; counts = padded most_processes counts }) (counts_shown v)
