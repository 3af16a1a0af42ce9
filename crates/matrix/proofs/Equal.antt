-- Two rows are the same where each entry is.
use mathlib.Core.Path.{◌≡◌, refl, ap, sym, ◌∙◌}
use native.Mathlib.Omega.{arith}
use mathlib.Core.Bool.{Bool, true, false, not}
use mathlib.Core.List.{List}
use borrow.Author.Tests.{eq-eqb, eqb-true}
use lib.Dec.{eqb}
use lib.ListN.{length}
use lib.Seq.{ext_get_or}
use Rattle.std.specs.Bool.{Decides}
use Rattle.std.specs.Cmp.Lexicographic.{pointwise}
use Rattle.std.proofs.lemmas.Slice.Eq.{slice_eq-Decides}
use Rattle.lists.proofs.Over.{all_in, all_out}
use Rattle.lists.proofs.Tests.{both_ways}
use Rattle.book.specs.declared.Count.{Count}
use Rattle.book.specs.Bounds.{most_processes}
use Rattle.book.proofs.Values.{tally}
use Rattle.consistency.specs.Known.{counters}
use Rattle.matrix.specs.Entries.{same}

count_equal : (x y : Count) → Decides (eqb x.0 y.0) (x ≡ y)
count_equal x y = (λ h. ap tally (eqb-true x.0 y.0 h), λ e. eq-eqb _ _ (ap (λ (v : Count). v.0) e))

pub rows_same : (a b : List Count) (r : Bool) → length a ≡ most_processes → length b ≡ most_processes
    → r ≡ pointwise (λ (x y : Count). eqb x.0 y.0) a b → r ≡ same a b
unfolding same
rows_same a b r long long' told =
    let equal = slice_eq-Decides count_equal a b r told in
    both_ways r (same a b)
    (λ t. all_out most_processes _ (λ i m. eq-eqb _ _ (ap (λ (l : List Count). counters l i) (equal.0 t))))
    (λ s. equal.1 (ext_get_or (tally 0) a b (long ∙ sym long') (λ i m. ap tally (eqb-true _ _ (all_in most_processes _ s i (omega (arith, long)))))))

not_not : (b : Bool) → not (not b) ≡ b
not_not true = refl
not_not false = refl

-- what `!=` answers
pub rows_differ : (a b : List Count) (r : Bool) → length a ≡ most_processes → length b ≡ most_processes
    → r ≡ not (pointwise (λ (x y : Count). eqb x.0 y.0) a b) → not r ≡ same a b
rows_differ a b r long long' told =
    ap not told ∙ not_not (pointwise (λ (x y : Count). eqb x.0 y.0) a b) ∙ rows_same a b _ long long' refl
