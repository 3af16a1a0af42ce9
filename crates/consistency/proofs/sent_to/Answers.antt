use mathlib.Core.Path.{ap, ◌∙◌}
use Prim.Native.Nat.{◌-◌}
use native.Mathlib.Omega.{arith}
use Rattle.book.specs.declared.Count.{Count}
use Rattle.book.proofs.Values.{tally_of}
use Rattle.book.proofs.Starts.{placed_row, placed_counter}
use Rattle.consistency.specs.Set.{chosen}
use Rattle.lists.proofs.Filling.{filled_none, filled_more}
use Rattle.consistency.proofs.sent_to.Goals as goal

pub loop-p-init : goal.loop-p-init
loop-p-init c = filled_none (omega arith)

pub counter-requires : goal.counter-requires
counter-requires c =
    let p = c.loop-p.p in
    let h = c.loop-p-test.true in
    let whole = c.requires.whole.0 in record {
      le_r = placed_row whole.placed p (omega arith) (chosen c.args.set p) (c.requires.all_named p h);
      le_p = (omega arith, (omega arith, whole.long));
    }

pub loop-p-preserved : goal.loop-p-preserved
loop-p-preserved c = filled_more c.loop-p.invariant (omega arith) (tally_of c.counter.ensures)

pub returns : goal.returns
returns c = λ p i.
    ap (λ (v : Count). v.0) (c.loop-p.invariant.done p (omega arith))
    ∙ placed_counter c.requires.whole.0.placed p (omega arith) c.args.sent.now (chosen c.args.set p) (c.args.j.0 - 1)
