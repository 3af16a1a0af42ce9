-- The turns of the loop that moves the rows of all processes. No row is written over before it is read: what is kept of a process
-- takes no more room than the process had, so the next row to write is at most the first row of the next process.
use mathlib.Core.Path.{◌≡◌, refl, sym, ap, ap₂, ◌∙◌}
use mathlib.Core.List.{List, ◌++◌}
use Prim.Native.Nat.{ℕ, suc, ◌+◌, ◌-◌, ◌*◌, ◌≤◌, ◌<◌}
use native.Mathlib.Numerals.{add-one}
use native.Mathlib.Omega.{arith}
use lib.ListN.{length, get_or, length-append}
use lib.Seq.{sets, length-sets}
use Rattle.book.specs.declared.Checkpoint.{Checkpoint}
use Rattle.book.specs.declared.Count.{Count}
use Rattle.book.specs.declared.TableRows.{TableRows}
use Rattle.book.specs.View.{count, first_row, counter_at}
use Rattle.book.specs.Starts.{RowStart}
use Rattle.lists.proofs.Stores.{sets_append}
use Rattle.book.proofs.Starts.{starts_carried, placed_first}
use Rattle.book.proofs.Sums.{sum_more, sum_take}
use Rattle.consistency.specs.Set.{chosen}
use Rattle.consistency.specs.Known.{counters}
use Rattle.consistency.proofs.Permits.{from_one}
use Rattle.matrix.specs.Matrix.{entry, row}
use Rattle.matrix.proofs.Rows.{counter_of_row}
use Rattle.shown.specs.Rows.{rows_to, all_rows_to}
use Rattle.moves.specs.Parts.{Movable, rows_moved}
use Rattle.moves.proofs.Rows.{length_rows, rows_same, all_rows_same}
use Rattle.lists.proofs.Stores.{get_d_past}
use Rattle.moves.proofs.ProcessTurns.{row_of}

-- the rows that are kept of process j begin at this row
abbrev pub from_row : List ℕ → List Checkpoint → ℕ → ℕ
from_row first line j = get_or first j 0 + (chosen line j - 1)

-- an entry of theirs, less what is taken off
abbrev pub kept_entry : List ℕ → List ℕ → List Checkpoint → List Count → ℕ → ℕ → ℕ → ℕ
kept_entry first table line off j r p = get_or table ((from_row first line j + (r - 1)) * 16 + p) 0 - entry off j p

-- the rows that are kept of the first j processes
abbrev pub kept_rows : List ℕ → List ℕ → List Checkpoint → List ℕ → List Count → ℕ → List ℕ
kept_rows first table line kept off j = all_rows_to (λ i. get_or kept i 0) (kept_entry first table line off) j

-- these rows stand at the start of the table, and `to` is the start carried to the next process, of the counts that are kept
pub record AllMoved (table₀ : List ℕ) (off : List Count) (line : List Checkpoint) (kept : List ℕ) (n : ℕ) (first table : List ℕ) (to j : ℕ) :
    Type 0 where
  pub within : j ≤ n
  pub start : RowStart kept j to
  pub few : to ≤ 256
  pub behind : j < n → to ≤ get_or first j 0
  pub long : length (kept_rows first table₀ line kept off j) ≡ to * 16
  pub present : table ≡ sets table₀ 0 (kept_rows first table₀ line kept off j)

pub all_begun : (table : List ℕ) (off : List Count) (line : List Checkpoint) (kept : List ℕ) (n : ℕ) (first : List ℕ)
    → AllMoved table off line kept n first table 0 0
unfolding all_rows_to
all_begun table off line kept n first =
    record {
      within = omega arith;
      start = (starts_carried kept).begins;
      few = omega arith;
      behind = λ h. omega arith;
      long = refl;
      present = refl;
    }

module _ (table₀ : List ℕ) (off : List Count) (line : List Checkpoint) (kept : List ℕ) (n : ℕ) (first table : List ℕ) (to j : ℕ)
    (inv : AllMoved table₀ off line kept n first table to j) where
  abbrev done : List ℕ
  done = kept_rows first table₀ line kept off j

  pub all_length : length table ≡ length table₀
  all_length = ap length inv.present ∙ length-sets table₀ 0 done

  -- the rows of the next process are as before
  module _ (h : j < n) (own : List Count) (is_own : own ≡ row off j) where
    old : (r p : ℕ) → p < 16 → row_of table (from_row first line j) own r p ≡ kept_entry first table₀ line off j r p
    old r p l =
        let at : ℕ = (from_row first line j + (r - 1)) * 16 + p in
        ap₂ (λ (a b : ℕ). a - b)
        (ap (λ (t : List ℕ). get_or t at 0) inv.present ∙ get_d_past done table₀ 0 at (omega (arith, inv.long, inv.behind h)))
        (ap (λ (t : List Count). counters t p) is_own ∙ counter_of_row (λ q. entry off j q) p l)

    next : rows_to (row_of table (from_row first line j) own) (get_or kept j 0) ≡ rows_to (kept_entry first table₀ line off j) (get_or kept j 0)
    next = rows_same (get_or kept j 0) (row_of table (from_row first line j) own) (kept_entry first table₀ line off j) (λ r p _ _ l. old r p l)

    more_long : length (done ++ rows_to (kept_entry first table₀ line off j) (get_or kept j 0)) ≡ (to + get_or kept j 0) * 16
    more_long =
        length-append done (rows_to (kept_entry first table₀ line off j) (get_or kept j 0))
        ∙ ap₂ (λ (a b : ℕ). a + b) inv.long (length_rows (kept_entry first table₀ line off j) (get_or kept j 0)) ∙ omega arith

    more_present : (table' : List ℕ) → table' ≡ sets table (to * 16) (rows_to (row_of table (from_row first line j) own) (get_or kept j 0))
        → table' ≡ sets table₀ 0 (done ++ rows_to (kept_entry first table₀ line off j) (get_or kept j 0))
    more_present table' put =
        let place : to * 16 ≡ 0 + length done = omega (arith, inv.long) in
        put
        ∙ ap₂ (λ (l : List ℕ) (k : ℕ). sets l k (rows_to (row_of table (from_row first line j) own) (get_or kept j 0))) inv.present place
        ∙ ap (sets (sets table₀ 0 done) (0 + length done)) next
        ∙ sets_append done (rows_to (kept_entry first table₀ line off j) (get_or kept j 0)) table₀ 0

-- ---- with what is known of the rows

-- where the rows of a process begin
starts : (rows : TableRows) (line : List Checkpoint) (kept : List ℕ) → length rows.shape.counts ≡ 16 → Movable rows line kept → (j : ℕ)
    → j < rows.shape.n → RowStart rows.shape.counts j (get_or rows.first j 0)
starts rows line kept sixteen m j h = placed_first m.placed j (omega (arith, sixteen, m.most))

-- the rows that are kept of process j lie at or after where they are moved to, and within the table
pub record Room (line : List Checkpoint) (kept first : List ℕ) (to j : ℕ) : Type 0 where
  pub some : 1 ≤ chosen line j
  pub behind : to ≤ from_row first line j
  pub inside : from_row first line j + get_or kept j 0 ≤ 256

module _ (table₀ : List ℕ) (off : List Count) (line : List Checkpoint) (kept : List ℕ) (rows : TableRows)
    (sixteen : length rows.shape.counts ≡ 16) (m : Movable rows line kept) (table : List ℕ) (to j : ℕ)
    (inv : AllMoved table₀ off line kept rows.shape.n rows.first table to j) where
  module _ (h : j < rows.shape.n) where
    pub all_room : Room line kept rows.first to j
    all_room =
        record {
          some = (m.among j h).0;
          behind = omega (arith, inv.behind h);
          inside =
              omega
              (arith, starts rows line kept sixteen m j h, (m.among j h).1, m.placed.inside, sum_more rows.shape.counts j, sum_take rows.shape.counts (suc j));
        }

    room_after : j + 1 < rows.shape.n → to + get_or kept j 0 ≤ get_or rows.first (j + 1) 0
    room_after l =
        let next : get_or rows.first j 0 + count rows.shape j ≡ get_or rows.first (j + 1) 0
        = (starts_carried rows.shape.counts).next j (get_or rows.first j 0) (starts rows line kept sixteen m j h) ∙ sym (starts rows line kept sixteen m (j + 1) l) in
        omega (arith, inv.behind h, (m.among j h).1)

    pub all_more : (own : List Count) → own ≡ row off (j + 1 - 1) → (table' : List ℕ)
        → table' ≡ sets table (to * 16) (rows_to (row_of table (from_row rows.first line j) own) (get_or kept j 0))
        → AllMoved table₀ off line kept rows.shape.n rows.first table' (to + get_or kept j 0) (j + 1)
    unfolding all_rows_to
    all_more own made table' put =
        let is_own : own ≡ row off j = made ∙ ap (row off) (from_one j) in
        record {
          within = omega arith;
          start = (starts_carried kept).next j to inv.start;
          few = omega (arith, all_room.behind, all_room.inside);
          behind = room_after;
          long = rw (add-one j) (more_long table₀ off line kept rows.shape.n rows.first table to j inv h own is_own);
          present = rw (add-one j) (more_present table₀ off line kept rows.shape.n rows.first table to j inv h own is_own table' put);
        }

  -- the definition's rows
  module _ (h : rows.shape.n ≤ j) where
    all_rows : kept_rows rows.first table₀ line kept off j ≡ rows_moved rows table₀ line kept off
    all_rows =
        let all : j ≡ rows.shape.n = omega (arith, inv.within) in
        let as_read : ℕ → ℕ → ℕ → ℕ = kept_entry rows.first table₀ line off in
        let as_defined : ℕ → ℕ → ℕ → ℕ
        = λ i r p. counter_at rows.shape.counts table₀ i (chosen line i - 1 + r) p - entry off i p in
        ap (kept_rows rows.first table₀ line kept off) all
        ∙ all_rows_same rows.shape.n (λ i. get_or kept i 0) (λ i. get_or kept i 0) as_read as_defined (λ i l. refl)
        (λ i r p l some _ _. ap (λ (at : ℕ). get_or table₀ at 0 - entry off i p) (place i r p l some))
      where
        place : (i r p : ℕ) → i < rows.shape.n → 1 ≤ r
            → (from_row rows.first line i + (r - 1)) * 16 + p ≡ (first_row rows.shape.counts i + (chosen line i - 1 + r - 1)) * 16 + p
        place i r p l some = omega (arith, starts rows line kept sixteen m i l)

    pub all_long : length (rows_moved rows table₀ line kept off) ≡ to * 16
    all_long = ap length (sym all_rows) ∙ inv.long

    pub all_ended : table ≡ sets table₀ 0 (rows_moved rows table₀ line kept off)
    all_ended = inv.present ∙ ap (sets table₀ 0) all_rows
