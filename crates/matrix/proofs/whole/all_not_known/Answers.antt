use mathlib.Core.Path.{◌≡◌, ap, sym, ◌∙◌}
use mathlib.Core.Bool.{Bool, not}
use mathlib.Core.List.{List}
use Prim.Native.Nat.{ℕ, ◌+◌, ◌-◌}
use native.Mathlib.Omega.{arith}
use Rattle.book.specs.declared.Count.{Count}
use Rattle.consistency.proofs.Permits.{from_one}
use Rattle.matrix.specs.Matrix.{row, not_known_row}
use Rattle.matrix.specs.Entries.{same}
use Rattle.matrix.specs.Whole.{all_not_known}
use Rattle.lists.proofs.Before.{before_none, before_more, all_pass, one_fails}
use Rattle.matrix.proofs.Equal.{rows_differ}
use borrow.Author.Rules.{rules}
use lib.ListN.{length}
use Rattle.matrix.proofs.whole.all_not_known.Goals as goal

told : (n : ℕ) (matrix entries unknown : List Count) (j : ℕ) (b : Bool) → entries ≡ row matrix (j + 1 - 1) → unknown ≡ not_known_row n (j + 1 - 1)
    → not b ≡ same entries unknown → not b ≡ same (row matrix j) (not_known_row n j)
told n matrix entries unknown j b e u h = h ∙ rw (e, u, from_one j)

pub loop-j-init : goal.loop-j-init
loop-j-init c = before_none

pub row-row-requires : goal.row-row-requires
row-row-requires c = (omega arith, omega arith)

pub returns-then-ne : goal.returns-then-ne
unfolding all_not_known
returns-then-ne c = let a = c.args in
    let unknown = c.not_known_row-unknown in
    let entries = c.row-row in
    let long : length entries.result ≡ 16 = search rules in
    let long' : length unknown.result ≡ 16 = search rules in
    one_fails c.loop-j.invariant c.loop-j-test.true
    (sym (told a.n a.matrix entries.result unknown.result c.loop-j.j c.ne.result entries.ensures unknown.ensures (rows_differ entries.result unknown.result c.ne.result long long' c.ne.ensures)) ∙ ap not c.if-ne.true)

pub loop-j-preserved : goal.loop-j-preserved
loop-j-preserved c = let a = c.args in
    let unknown = c.not_known_row-unknown in
    let entries = c.row-row in
    let long : length entries.result ≡ 16 = search rules in
    let long' : length unknown.result ≡ 16 = search rules in
    before_more c.loop-j.invariant c.loop-j-test.true
    (sym (told a.n a.matrix entries.result unknown.result c.loop-j.j c.ne.result entries.ensures unknown.ensures (rows_differ entries.result unknown.result c.ne.result long long' c.ne.ensures)) ∙ ap not c.if-ne.false)

pub returns : goal.returns
unfolding all_not_known
returns c = all_pass c.loop-j.invariant c.loop-j-test.false
