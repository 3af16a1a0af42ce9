use mathlib.Core.Path.{refl}
use native.Mathlib.Omega.{arith}
use borrow.Author.Rules.{rules}
use Rattle.lists.proofs.Filling.{filled_none, filled_more}
use Rattle.finder.proofs.Rows.{row_small, first_at}
use Rattle.finder.proofs.rows_at.Goals as goal

pub loop-j-init : goal.loop-j-init
loop-j-init c = filled_none (omega arith)

pub overflow_sub-at : goal.overflow_sub-at
overflow_sub-at c = omega (arith, c.requires.some c.loop-j.j (omega arith))

pub overflow_add-at : goal.overflow_add-at
overflow_add-at c = let j = c.loop-j.j in
    omega (arith, row_small c.requires j (omega arith), first_at c.requires j (omega arith) (search rules))

pub loop-j-preserved : goal.loop-j-preserved
loop-j-preserved c = filled_more c.loop-j.invariant (omega arith) refl

pub returns : goal.returns
returns c = λ j i. omega (arith, c.loop-j.invariant.done j (omega arith), first_at c.requires j i (search rules), c.requires.some j i)
