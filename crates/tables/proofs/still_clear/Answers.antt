-- `still_clear` meets its contract: by cases of both.
use borrow.Author.Tests.{eq-eqb, ne_eqb}
use mathlib.Core.Path.{sym, ap, ◌∙◌}
use mathlib.Core.Bool.{Bool, ◌&&◌, and-true, and-false}
use Rattle.tables.proofs.still_clear.Goals as goal

pub returns-then-v-ne0 : goal.returns-then-v-ne0
returns-then-v-ne0 c = let a = c.args in
    sym (ap (λ (b : Bool). a.clear && b) (ne_eqb a.v 0 c.if-v-ne0.true) ∙ and-false a.clear)

pub returns : goal.returns
returns c = let a = c.args in
    sym (ap (λ (b : Bool). a.clear && b) (eq-eqb a.v 0 c.if-v-ne0.false) ∙ and-true a.clear)
