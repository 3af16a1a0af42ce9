-- `with_row` meets its contract.
use mathlib.Core.Path.{◌≡◌, ap, ◌∙◌}
use mathlib.Core.List.{List}
use Prim.Native.Nat.{ℕ, ◌+◌, ◌-◌, ◌*◌, ◌/◌}
use native.Mathlib.Omega.{arith}
use borrow.Author.Rules.{rules}
use borrow.Rule.Slice.PartMut.{put_mid}
use lib.ListN.{length}
use Rattle.book.specs.declared.Count.{Count}
use Rattle.book.proofs.Values.{tally}
use Rattle.lists.proofs.Over.{tab_is}
use Rattle.matrix.specs.Matrix.{as_matrix, with_row}
use Rattle.matrix.proofs.RowPut.{row_put, row_put_at, row_put_long}
use Rattle.matrix.proofs.with_row.Goals as goal

pub returns : goal.returns
unfolding as_matrix
returns c = let a = c.args in
    let first : ℕ = (a.j.0 - 1) * 16 in
    let down : first / 16 ≡ a.j.0 - 1 = omega arith in
    let wide : first + 16 - first ≡ 16 = omega arith in
    let long : length a.matrix ≡ 256 = search rules in
    let row : length a.entries ≡ 16 = search rules in
    let put : c.copy_from_slice.new.self ≡ a.entries = c.copy_from_slice.ensures.after in
    ap (λ (k : ℕ). put_mid first k a.matrix c.copy_from_slice.new.self) wide ∙ ap (λ (l : List Count). put_mid first 16 a.matrix l) put
    ∙ tab_is (tally 0) 256 (row_put a.matrix a.entries first) (put_mid first 16 a.matrix a.entries)
    (row_put_long a.matrix a.entries first (omega arith) (omega (arith, long)) row ∙ long)
    (λ i m. row_put_at a.matrix a.entries first (omega arith) (omega (arith, long)) row i)
    ∙ ap (λ (k : ℕ). with_row a.matrix k a.entries) down
