-- Shapes and sets: there and back.
use mathlib.Core.Path.{◌≡◌, refl, sym, ap}
use mathlib.Core.List.{List, [], ◌∷◌}
use Prim.Native.Nat.{ℕ, ◌+◌}
use native.Mathlib.Omega.{arith}
use lib.ListN.{length}
use Rattle.book.specs.declared.Shape.{Shape}
use Rattle.book.specs.Bounds.{most_processes}
use Rattle.lists.specs.Over.{tab_from}
use Rattle.lists.proofs.Over.{length_tab, get_d_tab, tab_is}
use Rattle.consistency.specs.Set.{chosen}
use Rattle.finder.proofs.Sixteen.{checkpoints_are, chosen_there}
use Rattle.words.specs.Words.{word, sixteen_at, shape_counts_at}
use Rattle.words.specs.Plain.{number_words, shape_in, shape_words, set_in, set_words}
use Rattle.word_laws.specs.Statements.{ShapeBack, SetBack, ShapeForm, SetForm}
use Rattle.word_laws.proofs.Lying.{Lies, lies_self, lies_all, lies_second, lies_both, lies_tab_in, lies_tab_out, lies_there}

-- ---- sixteen numbers

pub numbers_back : {words : List ℕ} {at : ℕ} {numbers : List ℕ} → length numbers ≡ most_processes → Lies words at (number_words numbers)
    → sixteen_at words at ≡ numbers
numbers_back {words} {at} {numbers} long lies =
    sym (tab_is 0 most_processes (λ i. word words (at + i)) numbers long (λ i h. sym (lies_tab_in most_processes (word numbers) lies i h)))

pub numbers_form : (words : List ℕ) (at : ℕ) → Lies words at (number_words (sixteen_at words at))
numbers_form words at =
    lies_tab_out most_processes (word (sixteen_at words at)) (λ i h. sym (get_d_tab most_processes (λ i. word words (at + i)) i 0 h))

-- ---- shapes

pub shape_back : ShapeBack
unfolding shape_in shape_words
shape_back shape long =
    let words : List ℕ = shape_words shape in
    let counts : Lies words shape_counts_at (number_words shape.counts) = lies_second (shape.n ∷ []) (number_words shape.counts) shape_counts_at refl (lies_self words) in
    ap {B = Shape} (λ (l : List ℕ). record { n = shape.n; counts = l }) (numbers_back {words = words} {at = shape_counts_at} {numbers = shape.counts} long counts)

pub shape_form : ShapeForm
unfolding shape_in shape_words tab_from
shape_form words long =
    let counts : List ℕ = number_words (sixteen_at words shape_counts_at) in
    lies_all (lies_both (word words 0 ∷ []) counts shape_counts_at refl (lies_there words 0 shape_counts_at) (numbers_form words shape_counts_at))
    (omega (arith, long, length_tab most_processes (word (sixteen_at words shape_counts_at))))

-- ---- sets

pub set_back : SetBack
unfolding set_in
set_back set long =
    sym (checkpoints_are set (word (set_words set)) long (λ j h. sym (get_d_tab most_processes (chosen set) j 0 h)))

pub set_form : SetForm
unfolding set_in
set_form words long =
    sym (tab_is 0 most_processes (chosen (set_in words)) words long (λ i h. sym (chosen_there (word words) i h)))
