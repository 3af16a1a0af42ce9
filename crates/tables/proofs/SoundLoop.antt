-- From what the sweeps see to sound rows, and a loop along the processes.
use mathlib.Core.Path.{◌≡◌}
use mathlib.Core.Bool.{Bool, true}
use mathlib.Core.List.{List}
use Prim.Native.Nat.{ℕ, zero, suc, ◌+◌, ◌-◌, ◌*◌, ◌≤◌, ◌<◌}
use native.Mathlib.Nat.{add-zero}
use native.Mathlib.Omega.{arith}
use lib.ListN.{length, take, get_or}
use lib.Seq.{length-take-le, get_or-take}
use Rattle.book.specs.View.{first_row}
use Rattle.book.specs.Check.{counts_question}
use Rattle.book.specs.Fits.{RowsFit, BookFits}
use Rattle.book.proofs.Counts.{counts_some}
use Rattle.tables.specs.Sound.{Between, Known, Zero, Rising, RowsSound, TableSound}
use Rattle.lists.proofs.Before.{below_more}
use Rattle.tables.proofs.BookLoop.{Placed, placed_none, placed_more}

-- what the sweeps see of the rows of a process
pub record Seen (zeros : Bool) (n j first count : ℕ) (table : List ℕ) : Type 0 where
  pub oldest : zeros ≡ true → Between (first * 16) (first * 16 + 16) (Zero table)
  pub rising : Between (first * 16 + 16) ((first + count) * 16) (Rising table)
  pub known : Between ((first + count) * 16 - 16) ((first + count) * 16) (Known table)
  pub own : Zero table ((first + count) * 16 - 16 + j)
  pub absent : Between ((first + count) * 16 - 16 + n) ((first + count) * 16) (Zero table)

module _ (zeros : Bool) (n j first count : ℕ) (table : List ℕ) (fits : RowsFit n j first count table) (seen : Seen zeros n j first count table) where
  -- no entry is higher than the one that stands d rows later
  climbs : (d r p : ℕ) → r + d < count → p < 16 → get_or table ((first + r) * 16 + p) 0 ≤ get_or table ((first + (r + d)) * 16 + p) 0
  climbs zero r p h k = rw (add-zero r) (omega arith)
  climbs (suc d) r p h k =
      let back : (first + (r + suc d)) * 16 + p - 16 ≡ (first + (r + d)) * 16 + p = omega arith in
      let step = rw back at (seen.rising ((first + (r + suc d)) * 16 + p) (omega arith) (omega arith)) in
      let before = climbs d r p (omega arith) k in
      omega arith

  -- nor than the newest
  highest : (r p : ℕ) → r < count → p < 16 → get_or table ((first + r) * 16 + p) 0 ≤ get_or table ((first + count) * 16 - 16 + p) 0
  highest r p h k =
      let last : (first + (r + (count - 1 - r))) * 16 + p ≡ (first + count) * 16 - 16 + p = omega arith in
      rw last at (climbs (count - 1 - r) r p (omega arith) k)

  pub seen_sound : RowsSound zeros n j first count table
  seen_sound =
      record {
        known = λ r p h k. omega (arith, highest r p h k, seen.known ((first + count) * 16 - 16 + p) (omega arith) (omega arith));
        oldest = λ z p k. seen.oldest z (first * 16 + p) (omega arith) (omega arith);
        rising = λ r p o h k. seen.rising ((first + r) * 16 + p) (omega arith) (omega arith);
        own = λ r h. omega (arith, highest r j h (omega arith), seen.own);
        absent = λ r p h l k.
            omega (arith, highest r p h k, seen.absent ((first + count) * 16 - 16 + p) (omega arith) (omega arith));
      }

-- after question 5 no count is zero
pub some_rows : (n j : ℕ) (counts : List ℕ) → n ≤ length counts → counts_question 0 (take n counts) ≡ 0 → j < n → 1 ≤ get_or counts j 0
some_rows n j counts l q h =
    rw (get_or-take n counts j 0 h) at (counts_some 0 (take n counts) q j (rw (length-take-le n counts l) h))

-- the rows of the processes before j are sound
pub record Sounded (zeros : Bool) (n : ℕ) (counts table : List ℕ) (first j : ℕ) : Type 0 where
  pub placed : Placed counts n first j
  pub rows : (i : ℕ) → i < j → RowsSound zeros n i (first_row counts i) (get_or counts i 0) table

pub sounded_none : (zeros : Bool) (n : ℕ) (counts table : List ℕ) → BookFits n counts table → length counts ≡ 16 → Sounded zeros n counts table 0 0
sounded_none zeros n counts table b l = record { placed = placed_none n counts table b l; rows = λ i h. absurd (omega arith) }

module _ (zeros : Bool) (n : ℕ) (counts table : List ℕ) (first j : ℕ) (s : Sounded zeros n counts table first j) where
  pub sounded_more : j < n → RowsSound zeros n j first (get_or counts j 0) table → Sounded zeros n counts table (first + get_or counts j 0) (j + 1)
  sounded_more h here =
      record {
        placed = placed_more counts n first j s.placed h;
        rows = below_more (λ i. RowsSound zeros n i (first_row counts i) (get_or counts i 0) table) j s.rows (rw s.placed.starts at here);
      }

  pub sounded_end : n ≤ j → Between (first * 16) 4096 (Zero table) → TableSound zeros n counts table
  sounded_end h after =
      let all : j ≡ n = omega (arith, s.placed.passed) in
      record {
        rows = λ i k. s.rows i (omega arith);
        after = rw all at (rw s.placed.starts at after);
      }
