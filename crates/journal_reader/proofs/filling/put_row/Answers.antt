use mathlib.Core.Path.{◌≡◌, refl, sym, ap, ◌∙◌}
use mathlib.Core.List.{List}
use Prim.Native.Nat.{ℕ, ◌*◌}
use borrow.Author.Rules.{rules}
use lib.ListN.{length, get_or}
use lib.Seq.{sets}
use Rattle.lists.specs.Over.{tab}
use Rattle.lists.proofs.Over.{tab_is}
use Rattle.lists.proofs.Stores.{stored_none, stored_more, stored_all}
use Rattle.book.specs.Bounds.{row_width}
use Rattle.journal_reader.proofs.filling.put_row.Goals as goal

pub loop-p-init : goal.loop-p-init
loop-p-init c = stored_none

pub loop-p-preserved : goal.loop-p-preserved
loop-p-preserved c = stored_more c.loop-p.invariant c.loop-p-test.true _ c.from.ensures

pub shape_of-table : goal.shape_of-table
shape_of-table c = c.loop-p.invariant.same

-- all of them are the row
all_of : (l : List ℕ) → length l ≡ row_width → tab row_width (λ q. get_or l q 0) ≡ l
all_of l long = sym (tab_is 0 row_width (λ q. get_or l q 0) l long (λ q h. refl))

pub returns : goal.returns
returns c =
    let a = c.args in
    stored_all c.loop-p.invariant c.loop-p-test.false
    ∙ ap (sets a.table.now (a.row * row_width)) (all_of a.counters (search rules))
