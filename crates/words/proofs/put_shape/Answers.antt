-- `put_shape` meets its contract.
use mathlib.Core.Path.{◌∙◌}
use mathlib.Core.List.{◌∷◌}
use native.Mathlib.Omega.{arith}
use lib.ListN.{length-set}
use Rattle.lists.proofs.Over.{length_tab}
use Rattle.words.specs.Plain.{number_words, shape_words}
use Rattle.words.proofs.Storing.{sets_all}
use Rattle.words.proofs.put_shape.Goals as goal

pub put_numbers-requires : goal.put_numbers-requires
put_numbers-requires c = simp length-set (omega arith)

pub shape_of-words : goal.shape_of-words
shape_of-words c = c.put_numbers.auto.words ∙ simp length-set

pub returns : goal.returns
unfolding shape_words
returns c = let a = c.args in
    let ns = number_words a.shape.counts in
    sets_all (a.shape.n ∷ ns) a.words.now (simp length_tab (omega (arith, c.requires))) c.put_numbers.ensures
