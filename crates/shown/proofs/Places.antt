-- A table into which rows are put at their places, those of a process in turn and the processes in any order.
use mathlib.Core.Path.{◌≡◌, refl, sym, ap, ap₂, ◌∙◌}
use mathlib.Core.List.{List, ◌++◌}
use Prim.Native.Nat.{ℕ, zero, suc, ◌+◌, ◌-◌, ◌*◌, ◌≤◌, ◌<◌}
use native.Mathlib.Decide.{dec_lt, ℕ_discrete}
use native.Mathlib.Omega.{arith}
use lib.ListN.{
  length,
  take,
  drop,
  get_or,
  replicate,
  length-append,
  length-drop,
  length-replicate,
  get_or-replicate,
  take-append-drop,
  get_or-append,
}
use lib.Seq.{sets, sets-eq, length-sets, length-take-le, take-add, get_or-take, get_or-drop, get_or-append-add, ext_get_or}
use Rattle.lists.specs.Over.{sum_to}
use Rattle.lists.proofs.Over.{tab_is}
use Rattle.lists.proofs.Stores.{get_d_below, get_d_past}
use Rattle.book.specs.Bounds.{most_checkpoints, row_width, entries}
use Rattle.book.specs.Tables.{padded}
use Rattle.book.specs.View.{counter_from}
use Rattle.shown.specs.Rows.{rows_to, all_rows_to}

-- ---- the rows of all processes, where each stands at its place

-- the rows of a process, which begin the list
rows_taken : (row : ℕ → ℕ → ℕ) (l : List ℕ) (k : ℕ) → k * row_width ≤ length l
    → ((r p : ℕ) → 1 ≤ r → r ≤ k → p < row_width → get_or l ((r - 1) * row_width + p) 0 ≡ row r p) → take (k * row_width) l ≡ rows_to row k
unfolding rows_to
rows_taken row l zero h there = refl
rows_taken row l (suc k) h there =
    let more : suc k * row_width ≡ k * row_width + row_width = omega arith in
    let last : List ℕ = take row_width (drop (k * row_width) l) in
    let long : length last ≡ row_width = length-take-le row_width (drop (k * row_width) l) (omega (arith, length-drop (k * row_width) l)) in
    ap (λ (m : ℕ). take m l) more
    ∙ take-add (k * row_width) row_width l
    ∙ ap₂ (λ (a b : List ℕ). a ++ b)
    (rows_taken row l k (omega arith) (λ r p some few. there r p some (omega arith)))
    (tab_is 0 row_width (row (suc k)) last long (λ p i.
    let back : suc k - 1 ≡ k = omega arith in
    get_or-take row_width (drop (k * row_width) l) p 0 i
    ∙ get_or-drop (k * row_width) l p 0
    ∙ ap (λ (m : ℕ). get_or l (m * row_width + p) 0) (sym back)
    ∙ there (suc k) p (omega arith) (omega arith) i))

all_taken : (count : ℕ → ℕ) (row : ℕ → ℕ → ℕ → ℕ) (l : List ℕ) (n : ℕ) → sum_to n count * row_width ≤ length l
    → ((j r p : ℕ) → j < n → 1 ≤ r → r ≤ count j → p < row_width → counter_from l (sum_to j count) r p ≡ row j r p)
    → take (sum_to n count * row_width) l ≡ all_rows_to count row n
unfolding sum_to all_rows_to
all_taken count row l zero h there = refl
all_taken count row l (suc n) h there =
    let start : ℕ = sum_to n count * row_width in
    let more : (sum_to n count + count n) * row_width ≡ start + count n * row_width = omega arith in
    ap (λ (m : ℕ). take m l) more
    ∙ take-add start (count n * row_width) l
    ∙ ap₂ (λ (a b : List ℕ). a ++ b)
    (all_taken count row l n (omega arith) (λ j r p i. there j r p (omega arith)))
    (rows_taken (row n) (drop start l) (count n) (omega (arith, length-drop start l)) (λ r p some few i.
    let at : start + ((r - 1) * row_width + p) ≡ (sum_to n count + (r - 1)) * row_width + p = omega arith in
    get_or-drop start l ((r - 1) * row_width + p) 0
    ∙ ap (λ (m : ℕ). get_or l m 0) at
    ∙ there n r p (omega arith) some few i))

-- ---- rows put one by one

-- of each process so many rows stand at their places, and nothing stands after the last row of all
pub record Standing (n : ℕ) (count : ℕ → ℕ) (row : ℕ → ℕ → ℕ → ℕ) (done : ℕ → ℕ) (table : List ℕ) : Type 0 where
  pub long : length table ≡ entries
  pub rows : (j r p : ℕ) → j < n → 1 ≤ r → r ≤ done j → p < row_width → counter_from table (sum_to j count) r p ≡ row j r p
  pub rest : (i : ℕ) → sum_to n count * row_width ≤ i → get_or table i 0 ≡ 0

-- in a clear table rows of zeros stand already
pub standing_clear : (n : ℕ) (count : ℕ → ℕ) (row : ℕ → ℕ → ℕ → ℕ) (done : ℕ → ℕ) (table : List ℕ) → length table ≡ entries
    → ((i : ℕ) → get_or table i 0 ≡ 0) → ((j r p : ℕ) → 1 ≤ r → r ≤ done j → row j r p ≡ 0) → Standing n count row done table
standing_clear n count row done table long clear zeros =
    record {
      long = long;
      rows = λ j r p h some few i. clear ((sum_to j count + (r - 1)) * row_width + p) ∙ sym (zeros j r p some few);
      rest = λ i h. clear i;
    }

-- the rows of a process end where those of a later one begin, or before
rows_apart : (count : ℕ → ℕ) (i j : ℕ) → i < j → sum_to i count + count i ≤ sum_to j count
unfolding sum_to
rows_apart count i zero h = absurd (omega arith)
rows_apart count i (suc j) h =
    elim (ℕ_discrete i j) [
      | yes e ↦ rw e (omega arith)
      | no ne ↦ omega (arith, rows_apart count i j (omega arith))
    ]

pub row_inside : (n : ℕ) (count : ℕ → ℕ) (j r : ℕ) → j < n → r < count j → sum_to n count ≤ most_checkpoints → sum_to j count + r < most_checkpoints
row_inside n count j r h few inside = omega (arith, rows_apart count j n h)

-- an entry of a run of stores
pub get_d_within : (vs l : List ℕ) (k i : ℕ) → k + length vs ≤ length l → i < length vs → get_or (sets l k vs) (k + i) 0 ≡ get_or vs i 0
get_d_within vs l k i h m =
    let before : length (take k l) ≡ k = length-take-le k l (omega arith) in
    ap (λ (t : List ℕ). get_or t (k + i) 0) (sets-eq vs l k h)
    ∙ get_or-append (take k l ++ vs) (drop (k + length vs) l) 0 (k + i) (omega (arith, length-append (take k l) vs))
    ∙ ap (λ (a : ℕ). get_or (take k l ++ vs) (a + i) 0) (sym before)
    ∙ get_or-append-add (take k l) vs i 0

module _ {n : ℕ} {count : ℕ → ℕ} {row : ℕ → ℕ → ℕ → ℕ} {done : ℕ → ℕ} {table : List ℕ} (stands : Standing n count row done table) where
  -- where no row is put
  pub standing_as : (done' : ℕ → ℕ) → ((j : ℕ) → j < n → done' j ≡ done j) → Standing n count row done' table
  standing_as done' same =
      record {
        long = stands.long;
        rows = λ j r p h some few. stands.rows j r p h some (omega (arith, same j h));
        rest = stands.rest;
      }

  -- the next row of process j is put
  module _ (inside : sum_to n count ≤ most_checkpoints) (few : (i : ℕ) → i < n → done i ≤ count i) (done' : ℕ → ℕ) (j : ℕ) (h : j < n)
      (room : done j < count j) (one : done' j ≡ done j + 1) (others : (i : ℕ) → i < n → (i ≡ j → ⊥) → done' i ≡ done i)
      (counters : List ℕ) (wide : length counters ≡ row_width)
      (is : (p : ℕ) → p < row_width → get_or counters p 0 ≡ row j (done j + 1) p) where
    abbrev at : ℕ
    at = (sum_to j count + done j) * row_width

    abbrev table' : List ℕ
    table' = sets table at counters

    fits : at + length counters ≤ length table
    fits = omega (arith, row_inside n count j (done j) h room inside, stands.long)

    -- a row that stood there stays
    stays : (i r p : ℕ) → i < n → 1 ≤ r → r ≤ done i → p < row_width → counter_from table' (sum_to i count) r p ≡ row i r p
    stays i r p m some there q = apart i r p m some there q ∙ stands.rows i r p m some there q
      where
        apart : (i r p : ℕ) → i < n → 1 ≤ r → r ≤ done i → p < row_width
            → counter_from table' (sum_to i count) r p ≡ counter_from table (sum_to i count) r p
        apart i r p m some there q =
            let k : ℕ = (sum_to i count + (r - 1)) * row_width + p in
            elim (dec_lt j i) [
              | yes l ↦ get_d_past counters table at k (omega (arith, rows_apart count j i l))
              | no l ↦
                  elim (ℕ_discrete i j) [
                    | yes e ↦
                        let same : sum_to i count ≡ sum_to j count = ap (λ (x : ℕ). sum_to x count) e in
                        let both : done i ≡ done j = ap done e in
                        get_d_below counters table at k (omega arith)
                    | no ne ↦ get_d_below counters table at k (omega (arith, rows_apart count i j (omega arith), few i m))
                  ]
            ]

    new : (r p : ℕ) → r ≡ done j + 1 → p < row_width → counter_from table' (sum_to j count) r p ≡ row j r p
    new r p e q =
        let place : (sum_to j count + (done j + 1 - 1)) * row_width + p ≡ at + p = omega arith in
        rw e
        (ap (λ (k : ℕ). get_or table' k 0) place ∙ get_d_within counters table at p fits (omega arith) ∙ is p q)

    pub standing_more : Standing n count row done' table'
    standing_more =
        record {
          long = length-sets table at counters ∙ stands.long;
          rows = rows;
          rest = λ i m.
              get_d_past counters table at i (omega (arith, rows_apart count j n h)) ∙ stands.rest i m;
        }
      where
        rows : (i r p : ℕ) → i < n → 1 ≤ r → r ≤ done' i → p < row_width → counter_from table' (sum_to i count) r p ≡ row i r p
        rows i r p m some there q =
            elim (ℕ_discrete i j) [
              | yes e ↦ own i e r p some there q
              | no ne ↦ stays i r p m some (omega (arith, others i m ne)) q
            ]
          where
            own : (i : ℕ) → i ≡ j → (r p : ℕ) → 1 ≤ r → r ≤ done' i → p < row_width → counter_from table' (sum_to i count) r p ≡ row i r p
            own i e r p some there q =
                let there' : r ≤ done' j = rw e at there in
                rw e
                (elim (ℕ_discrete r (done j + 1)) [
                  | yes last ↦ new r p last q
                  | no ne ↦ stays j r p h some (omega (arith, one)) q
                ])

-- once all stand, the table is what the rows of all processes make
pub standing_all : {n : ℕ} {count : ℕ → ℕ} {row : ℕ → ℕ → ℕ → ℕ} {table : List ℕ} → Standing n count row count table
    → sum_to n count ≤ most_checkpoints → table ≡ padded entries (all_rows_to count row n)
standing_all {n} {count} {row} {table} stands inside =
    let used : ℕ = sum_to n count * row_width in
    let rows : List ℕ = all_rows_to count row n in
    let front : take used table ≡ rows = all_taken count row table n (omega (arith, stands.long)) stands.rows in
    let long : length rows ≡ used = ap length (sym front) ∙ length-take-le used table (omega (arith, stands.long)) in
    let zeros : List ℕ = replicate (entries - length rows) 0 in
    let after : length (drop used table) ≡ length zeros
    = length-drop used table ∙ omega (arith, stands.long) ∙ sym (length-replicate {A = ℕ} (entries - length rows) 0) in
    sym (take-append-drop used table)
    ∙ ap₂ (λ (a b : List ℕ). a ++ b) front
    (ext_get_or 0 (drop used table) zeros after (λ i m.
    get_or-drop used table i 0
    ∙ stands.rest (used + i) (omega arith)
    ∙ sym (get_or-replicate (entries - length rows) i 0 0 (omega (arith, after, length-replicate {A = ℕ} (entries - length rows) 0)))))
