-- A list of counts, added up.
use mathlib.Core.Path.{◌≡◌, sym, ap, ◌∙◌}
use mathlib.Core.List.{List}
use Prim.Native.Nat.{ℕ}
use native.Mathlib.Omega.{arith}
use lib.ListN.{get_or}
use lib.Seq.{take_all}
use Rattle.lists.specs.Over.{sum_to, tab}
use Rattle.lists.proofs.Over.{length_tab, get_d_tab, sum_ext}
use Rattle.book.specs.View.{sum}
use Rattle.book.proofs.Sums.{sum_of}

pub sum_tab : (n : ℕ) (count : ℕ → ℕ) → sum (tab n count) ≡ sum_to n count
sum_tab n count =
    let l : List ℕ = tab n count in
    ap sum (sym (take_all n l (omega (arith, length_tab n count))))
    ∙ sym (sum_of l n)
    ∙ sum_ext n (λ j. get_or l j 0) count (λ j h. get_d_tab n count j 0 h)
