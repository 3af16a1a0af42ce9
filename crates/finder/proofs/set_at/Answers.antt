use mathlib.Core.Path.{refl, ap, ◌∙◌}
use Prim.Native.Nat.{ℕ}
use native.Mathlib.Omega.{arith}
use borrow.Author.Rules.{rules}
use Rattle.book.specs.declared.Checkpoint.{Checkpoint}
use Rattle.lists.proofs.Filling.{filled_none, filled_more}
use Rattle.finder.proofs.Rows.{row_small, first_at}
use Rattle.finder.proofs.Sixteen.{chosen_none}
use Rattle.finder.proofs.set_at.Goals as goal

pub loop-j-init : goal.loop-j-init
loop-j-init c = filled_none (omega arith)

pub overflow_sub-set : goal.overflow_sub-set
overflow_sub-set c = let j = c.loop-j.j in
    omega (arith, c.requires.some j (omega arith), first_at c.requires j (omega arith) (search rules))

pub overflow_add-set : goal.overflow_add-set
overflow_add-set c = let j = c.loop-j.j in
    omega (arith, c.requires.some j (omega arith), row_small c.requires j (omega arith), first_at c.requires j (omega arith) (search rules))

pub loop-j-preserved : goal.loop-j-preserved
loop-j-preserved c = filled_more c.loop-j.invariant (omega arith) refl

pub returns : goal.returns
returns c =
    let inv = c.loop-j.invariant in
    let number : Checkpoint → ℕ = λ r. r.0 in record {
      same_set = λ j i. omega (arith, ap number (inv.done j (omega arith)), first_at c.requires j i (search rules), c.requires.some j i);
      absent_zero = λ j i. ap number (inv.rest j (omega arith)) ∙ chosen_none j;
    }
