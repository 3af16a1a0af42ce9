use mathlib.Core.Path.{◌≡◌, sym, ◌∙◌}
use mathlib.Core.Bool.{Bool}
use mathlib.Core.List.{List}
use Prim.Native.Nat.{ℕ, ◌+◌, ◌-◌}
use native.Mathlib.Omega.{arith}
use Rattle.book.specs.declared.Count.{Count}
use Rattle.consistency.proofs.Permits.{from_one}
use Rattle.matrix.specs.Matrix.{row}
use Rattle.matrix.specs.Entries.{rest_zero}
use Rattle.matrix.specs.Whole.{all_rest_zero}
use Rattle.lists.proofs.Before.{before_none, before_more, all_pass, one_fails}
use Rattle.matrix.proofs.whole.all_rest_zero.Goals as goal

told : (n : ℕ) (matrix entries : List Count) (j : ℕ) (b : Bool) → entries ≡ row matrix (j + 1 - 1) → b ≡ rest_zero n (j + 1 - 1) entries
    → b ≡ rest_zero n j (row matrix j)
told n matrix entries j b e h = h ∙ rw (e, from_one j)

pub loop-j-init : goal.loop-j-init
loop-j-init c = before_none

pub row-row-requires : goal.row-row-requires
row-row-requires c = (omega arith, omega arith)

pub returns-then-not-rest_zero : goal.returns-then-not-rest_zero
unfolding all_rest_zero
returns-then-not-rest_zero c = let a = c.args in
    let called = c.rest_zero in
    let entries = c.row-row in
    one_fails c.loop-j.invariant c.loop-j-test.true
    (sym (told a.n a.matrix entries.result c.loop-j.j called.result entries.ensures called.ensures) ∙ c.if-not-rest_zero.true)

pub loop-j-preserved : goal.loop-j-preserved
loop-j-preserved c = let a = c.args in
    let called = c.rest_zero in
    let entries = c.row-row in
    before_more c.loop-j.invariant c.loop-j-test.true
    (sym (told a.n a.matrix entries.result c.loop-j.j called.result entries.ensures called.ensures) ∙ c.if-not-rest_zero.false)

pub returns : goal.returns
unfolding all_rest_zero
returns c = all_pass c.loop-j.invariant c.loop-j-test.false
