-- What stands in the lists of a plan and of a restart order.
use mathlib.Core.Path.{◌≡◌, refl, sym, ap, fun_ext, ◌∙◌}
use mathlib.Core.List.{List, ◌++◌}
use Prim.Native.Nat.{ℕ, ◌+◌, ◌-◌, ◌/◌, ◌%◌, ◌≤◌, ◌<◌}
use native.Mathlib.Decide.{dec_lt}
use native.Mathlib.Omega.{arith}
use borrow.Author.Tests.{lt-ltb, le-ltb}
use lib.ListN.{length, get_or, replicate, length-append, length-replicate, get_or-replicate, get_or-append, get_or-eq_default}
use lib.Seq.{get_or-append-add}
use lib.Dec.{ltb}
use Rattle.book.specs.Tables.{padded}
use Rattle.lists.specs.Over.{tab}
use Rattle.lists.proofs.Over.{length_tab, get_d_tab, tab_is, tab_same}
use Rattle.book.proofs.Values.{tally}
use Rattle.consistency.specs.Set.{chosen}
use Rattle.lists.proofs.Pick.{pick_each}
use Rattle.matrix.specs.Matrix.{as_matrix, entry}
use Rattle.matrix.proofs.Rows.{entry_of_matrix}
use Rattle.finder.specs.Line.{checkpoints}
use Rattle.finder.proofs.Sixteen.{chosen_there}
use Rattle.restart.specs.Values.{present, numbers, rows_of, pair_rows}

-- ---- of processes that there are

module _ (n : ℕ) (few : n ≤ 16) where
  pub number_at : (f : ℕ → ℕ) (j : ℕ) → j < n → get_or (numbers n f) j 0 ≡ f j
  unfolding numbers
  number_at f j h = get_d_tab 16 (present n f) j 0 (omega arith) ∙ rw (lt-ltb j n h)

  pub checkpoint_at : (f : ℕ → ℕ) (j : ℕ) → j < n → chosen (checkpoints (present n f)) j ≡ f j
  checkpoint_at f j h = chosen_there (present n f) j (omega arith) ∙ rw (lt-ltb j n h)

  row_at : (f : ℕ → ℕ → ℕ) (j p : ℕ) → j < n → p < 16 → entry (rows_of n f) j p ≡ f j p
  unfolding rows_of
  row_at f j p h m = entry_of_matrix (λ j p. present n (λ i. f i p) j) j p (omega arith) m ∙ rw (lt-ltb j n h)

  -- absent processes have no row
  pub row_none : (f : ℕ → ℕ → ℕ) (j p : ℕ) → n ≤ j → j < 16 → p < 16 → entry (rows_of n f) j p ≡ 0
  unfolding rows_of
  row_none f j p none h m = entry_of_matrix (λ j p. present n (λ i. f i p) j) j p h m ∙ rw (le-ltb j n none)

  pub pair_at : (f : ℕ → ℕ → ℕ) (j p : ℕ) → j < n → p < n → entry (pair_rows n f) j p ≡ f j p
  pair_at f j p h o = row_at (λ j p. present n (f j) p) j p h (omega arith) ∙ rw (lt-ltb p n o)

  -- nor a column
  pub pair_none : (f : ℕ → ℕ → ℕ) (j p : ℕ) → j < n → n ≤ p → p < 16 → entry (pair_rows n f) j p ≡ 0
  pair_none f j p h none m = row_at (λ j p. present n (f j) p) j p h m ∙ rw (le-ltb p n none)

  -- sixteen numbers are those of the processes, and zeros after them
  pub numbers_padded : (f : ℕ → ℕ) → numbers n f ≡ padded 16 (tab n f)
  unfolding numbers
  numbers_padded f = sym (tab_is 0 16 (present n f) (padded 16 (tab n f)) long at)
    where
      zeros : List ℕ
      zeros = replicate (16 - length (tab n f)) 0

      long : length (tab n f ++ zeros) ≡ 16
      long = length-append (tab n f) zeros ∙ omega (arith, length-replicate {A = ℕ} (16 - length (tab n f)) 0, length_tab n f)

      at : (i : ℕ) → i < 16 → get_or (tab n f ++ zeros) i 0 ≡ present n f i
      at i h =
          elim (dec_lt i n) [
            | yes m ↦ rw (lt-ltb i n m) (get_or-append (tab n f) zeros 0 i (omega (arith, length_tab n f)) ∙ get_d_tab n f i 0 m)
            | no m ↦
                let e : i ≡ length (tab n f) + (i - n) = omega (arith, length_tab n f) in
                rw (le-ltb i n (omega arith))
                (ap (λ (k : ℕ). get_or (tab n f ++ zeros) k 0) e ∙ get_or-append-add (tab n f) zeros (i - n) 0
                ∙ get_or-replicate (16 - length (tab n f)) (i - n) 0 0 (omega (arith, length_tab n f)))
          ]

-- ---- of whatever process

module _ (n : ℕ) (f : ℕ → ℕ) where
  pub number_none : (j : ℕ) → f j ≡ 0 → get_or (numbers n f) j 0 ≡ 0
  unfolding numbers
  number_none j none = elim (dec_lt j 16) [
    | yes h ↦ get_d_tab 16 (present n f) j 0 h ∙ pick_each (λ k. k ≡ 0) (ltb j n) (f j) 0 none refl
    | no h ↦ get_or-eq_default (tab 16 (present n f)) 0 {n = j} (omega (arith, length_tab 16 (present n f)))
  ]

  -- numbers that absent processes do not have
  pub present_all : ((j : ℕ) → n ≤ j → f j ≡ 0) → present n f ≡ f
  present_all absent = fun_ext (λ j. elim (dec_lt j n) [
    | yes h ↦ rw (lt-ltb j n h)
    | no h ↦ rw (le-ltb j n (omega arith)) (sym (absent j (omega arith)))
  ])

-- ---- values of absent processes do not count

present_ext : (n : ℕ) (f g : ℕ → ℕ) → ((j : ℕ) → j < n → f j ≡ g j) → present n f ≡ present n g
present_ext n f g same = fun_ext (λ j. at j)
  where
    at : (j : ℕ) → present n f j ≡ present n g j
    at j =
        elim (dec_lt j n) [
          | yes h ↦ rw (lt-ltb j n h) (same j h)
          | no h ↦ rw (le-ltb j n (omega arith))
        ]

pub numbers_ext : (n : ℕ) (f g : ℕ → ℕ) → ((j : ℕ) → j < n → f j ≡ g j) → numbers n f ≡ numbers n g
unfolding numbers
numbers_ext n f g same = ap (tab 16) (present_ext n f g same)

pub rows_ext : (n : ℕ) (f g : ℕ → ℕ → ℕ) → ((j p : ℕ) → j < n → p < 16 → f j p ≡ g j p) → rows_of n f ≡ rows_of n g
unfolding rows_of as_matrix
rows_ext n f g same =
    tab_same 256 256 _ _ refl (λ i m.
    ap (λ (at : ℕ → ℕ). tally (at (i / 16)))
    (present_ext n (λ k. f k (i % 16)) (λ k. g k (i % 16)) (λ k l. same k (i % 16) l (omega arith))))
