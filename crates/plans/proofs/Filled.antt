-- An array filled for the processes that there are, zero for the others: numbers, checkpoints and rows of a matrix.
use mathlib.Core.Path.{◌≡◌, refl, sym, ap, ◌∙◌}
use mathlib.Core.Bool.{Bool}
use mathlib.Core.List.{List}
use Prim.Native.Nat.{ℕ, ◌*◌, ◌/◌, ◌%◌, ◌≤◌}
use native.Mathlib.Decide.{dec_lt}
use native.Mathlib.Omega.{arith}
use borrow.Author.Tests.{lt-ltb, le-ltb}
use lib.ListN.{replicate}
use lib.Dec.{ltb}
use Rattle.lists.specs.Pick.{pick}
use Rattle.lists.proofs.Pick.{pick_field}
use Rattle.lists.proofs.Over.{tab_same}
use Rattle.lists.proofs.Filling.{Filled, filled_part}
use Rattle.book.specs.declared.Checkpoint.{Checkpoint}
use Rattle.book.specs.declared.Count.{Count}
use Rattle.book.proofs.Values.{checkpoint, tally}
use Rattle.matrix.specs.Matrix.{as_matrix}
use Rattle.finder.specs.Line.{checkpoints}
use Rattle.restart.specs.Values.{present, numbers, rows_of}

pub filled_numbers : {n : ℕ} {f : ℕ → ℕ} {l : List ℕ} {k : ℕ} → Filled 0 (replicate 16 0) n f l k → n ≤ k → l ≡ numbers n f
unfolding numbers
filled_numbers filled h = filled_part 16 filled h

pub filled_checkpoints : {n : ℕ} (c : ℕ → ℕ) {l : List Checkpoint} {k : ℕ}
    → Filled (checkpoint 0) (replicate 16 (checkpoint 0)) n (λ i. checkpoint (c i)) l k → n ≤ k → l ≡ checkpoints (present n c)
unfolding checkpoints
filled_checkpoints {n} c filled h =
    filled_part 16 filled h ∙ tab_same 16 16 _ _ refl (λ i m. sym (pick_field checkpoint (ltb i n) (c i) 0))

-- the entries of the rows of n processes
rows_before : (i n : ℕ) → ltb i (n * 16) ≡ ltb (i / 16) n
rows_before i n =
    elim (dec_lt (i / 16) n) [
      | yes m ↦ rw (lt-ltb (i / 16) n m, lt-ltb i (n * 16) (omega arith))
      | no m ↦ rw (le-ltb (i / 16) n (omega arith), le-ltb i (n * 16) (omega arith))
    ]

pub filled_rows : (n : ℕ) (f : ℕ → ℕ → ℕ) {l : List Count} {k : ℕ}
    → Filled (tally 0) (replicate 256 (tally 0)) (n * 16) (λ i. tally (f (i / 16) (i % 16))) l k → n * 16 ≤ k → l ≡ rows_of n f
unfolding rows_of as_matrix
filled_rows n f filled h =
    filled_part 256 filled h
    ∙ tab_same 256 256 _ _ refl
    (λ i m.
    sym (pick_field tally (ltb i (n * 16)) (f (i / 16) (i % 16)) 0)
    ∙ ap (λ (b : Bool). tally (pick b (f (i / 16) (i % 16)) 0)) (rows_before i n))
