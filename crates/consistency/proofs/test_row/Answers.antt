use Prim.Native.Nat.{◌-◌}
use native.Mathlib.Omega.{arith}
use lib.ListN.{get_or}
use Rattle.book.specs.View.{counter_from}
use Rattle.book.proofs.Starts.{placed_first, placed_row}
use Rattle.lists.proofs.Before.{before_none, before_more, before_all}
use Rattle.consistency.specs.Known.{counters}
use Rattle.consistency.proofs.Permits.{known_here, offends, nobody_offends}
use Rattle.consistency.proofs.test_row.Goals as goal

pub loop-p-init : goal.loop-p-init
loop-p-init c = before_none

pub counter-had-requires : goal.counter-had-requires
counter-had-requires c =
    let whole = c.requires.whole.0 in record {
      le_r = placed_row whole.placed (c.args.j.0 - 1) (omega arith) c.args.r.0 c.requires.le_r;
      le_p = (omega arith, (omega arith, whole.long));
    }

pub returns-then-sent-had : goal.returns-then-sent-had
returns-then-sent-had c = let a = c.args in
    let begins = placed_first c.requires.whole.0.placed (a.j.0 - 1) (omega arith) in
    rw (← begins) (offends a.rows.shape.n (λ p. counter_from a.received.now _ a.r.0 p) (counters a.known)
    c.loop-p.p c.loop-p.invariant (omega arith) (omega (arith, c.counter-had.ensures)))

pub loop-p-preserved : goal.loop-p-preserved
loop-p-preserved c = let a = c.args in
    before_more c.loop-p.invariant (omega arith)
    (known_here (λ p. counter_from a.received.now (get_or a.rows.first (a.j.0 - 1) 0) a.r.0 p) (counters a.known) c.loop-p.p
    (omega (arith, c.counter-had.ensures)))

pub returns : goal.returns
returns c = let a = c.args in
    let begins = placed_first c.requires.whole.0.placed (a.j.0 - 1) (omega arith) in
    rw (← begins) (nobody_offends a.rows.shape.n (λ p. counter_from a.received.now _ a.r.0 p) (counters a.known)
    (before_all c.loop-p.invariant (omega arith)))
