-- Where the rows of a view's processes begin, by the counts of its shape.
use mathlib.Core.Path.{◌≡◌, refl, sym, ap, ◌∙◌}
use mathlib.Core.List.{List, [], ◌∷◌, ◌++◌}
use Prim.Native.Nat.{ℕ, zero, suc, ◌+◌, ◌-◌, ◌≤◌, ◌<◌}
use native.Mathlib.Omega.{arith}
use lib.ListN.{length, get_or, replicate}
use Rattle.lists.specs.Over.{sum_to, tab}
use Rattle.lists.proofs.Over.{sum_ext}
use Rattle.book.specs.declared.Shape.{Shape}
use Rattle.book.specs.Bounds.{most_processes}
use Rattle.book.specs.Tables.{padded, shape_of}
use Rattle.book.specs.View.{sum, first_rows}
use Rattle.book.proofs.Starts.{starts_are_sums}
use Rattle.book.proofs.Sums.{sum_of}
use Rattle.line_theory.specs.Sets.{View}
use Rattle.shown.specs.Shown.{book_shown}
use Rattle.shown.proofs.Rows.{shape_shown}
use Rattle.shown.proofs.Sums.{sum_tab}
use Rattle.journal_reader.proofs.Padded.{padded_long, padded_at}

-- zeros add nothing
sum_zeros : (l : List ℕ) (k : ℕ) → sum (l ++ replicate k 0) ≡ sum l
unfolding sum
sum_zeros [] zero = refl
sum_zeros [] (suc k) = let ih = sum_zeros [] k in omega arith
sum_zeros (x ∷ l) k = ap (λ (m : ℕ). x + m) (sum_zeros l k)

module _ (n : ℕ) (count : ℕ → ℕ) (few : n ≤ most_processes) where
  abbrev counts : List ℕ
  counts = padded most_processes (tab n count)

  row_starts : (j : ℕ) → j < n → get_or (first_rows counts) j 0 ≡ sum_to j count
  row_starts j h =
      starts_are_sums counts j (omega (arith, padded_long most_processes n count few))
      ∙ sym (sum_of counts j)
      ∙ sum_ext j (λ i. get_or counts i 0) count (λ i m. padded_at most_processes n count i (omega arith))

module _ (v : View) (few : v.n ≤ most_processes) where
  pub shown_in_all : sum (shape_of (book_shown v)).counts ≡ sum_to v.n v.count
  shown_in_all =
      ap (λ (shape : Shape). sum shape.counts) (shape_shown v)
      ∙ sum_zeros (tab v.n v.count) (most_processes - length (tab v.n v.count))
      ∙ sum_tab v.n v.count

  pub shown_starts : (j : ℕ) → j < v.n → get_or (first_rows (shape_of (book_shown v)).counts) j 0 ≡ sum_to j v.count
  shown_starts j h =
      ap (λ (shape : Shape). get_or (first_rows shape.counts) j 0) (shape_shown v) ∙ row_starts v.n v.count few j h
