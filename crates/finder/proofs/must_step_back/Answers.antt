use native.Mathlib.Omega.{arith}
use Rattle.lists.proofs.Before.{before_none, before_more, before_all}
use Rattle.finder.specs.Steps.{row_of, by_row}
use Rattle.finder.proofs.Flags.{must_here, need_not}
use Rattle.finder.proofs.must_step_back.Goals as goal

pub overflow_mul-own : goal.overflow_mul-own
overflow_mul-own c = omega (arith, c.requires.0.rows c.args.j c.requires.1)

pub loop-p-init : goal.loop-p-init
loop-p-init c = before_none

pub overflow_mul-other : goal.overflow_mul-other
overflow_mul-other c = omega (arith, c.requires.0.rows c.loop-p.p (omega arith))

pub overflow_add-other : goal.overflow_add-other
overflow_add-other c = omega (arith, c.requires.0.rows c.loop-p.p (omega arith))

pub offset_bounds-sent-other : goal.offset_bounds-sent-other
offset_bounds-sent-other c = omega (arith, c.requires.0.rows c.loop-p.p (omega arith))

pub bounds-sent-other : goal.bounds-sent-other
bounds-sent-other c = omega (arith, c.requires.0.rows c.loop-p.p (omega arith))

pub overflow_add-own : goal.overflow_add-own
overflow_add-own c = omega (arith, c.requires.0.rows c.args.j c.requires.1)

pub offset_bounds-received-own : goal.offset_bounds-received-own
offset_bounds-received-own c = omega (arith, c.requires.0.rows c.args.j c.requires.1)

pub bounds-received-own : goal.bounds-received-own
bounds-received-own c = omega (arith, c.requires.0.rows c.args.j c.requires.1)

pub returns-then-sent-other : goal.returns-then-sent-other
returns-then-sent-other c = let a = c.args in
    must_here (by_row a.n a.sent.now a.received.now) (row_of a.at.now) a.j c.loop-p.p (omega arith) c.if-sent-other.true

pub loop-p-preserved : goal.loop-p-preserved
loop-p-preserved c = before_more c.loop-p.invariant (omega arith) c.if-sent-other.false

pub returns : goal.returns
returns c = let a = c.args in
    need_not (by_row a.n a.sent.now a.received.now) (row_of a.at.now) a.j (before_all c.loop-p.invariant (omega arith))
