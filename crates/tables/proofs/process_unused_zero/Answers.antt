use Rattle.tables.proofs.UnusedLoop.{clear_none, own_fails, absent_fails, clear_more, clear_end}
use Rattle.tables.proofs.process_unused_zero.Goals as goal

pub loop-r-init : goal.loop-r-init
loop-r-init c = clear_none _ _ _ _ _ c.requires

pub returns-then-table-own-ne0 : goal.returns-then-table-own-ne0
returns-then-table-own-ne0 c = own_fails _ _ _ _ _ _ _ c.loop-r.invariant c.loop-r-test.true c.if-table-own-ne0.true

pub returns-then-not-is_zero : goal.returns-then-not-is_zero
returns-then-not-is_zero c = absent_fails _ _ _ _ _ _ _ c.loop-r.invariant c.loop-r-test.true c.if-table-own-ne0.false _ c.all_zero-is_zero.ensures c.if-not-is_zero.true

pub loop-r-preserved : goal.loop-r-preserved
loop-r-preserved c = clear_more _ _ _ _ _ _ _ c.loop-r.invariant c.loop-r-test.true c.if-table-own-ne0.false _ c.all_zero-is_zero.ensures c.if-not-is_zero.false

pub returns : goal.returns
returns c = clear_end _ _ _ _ _ _ _ c.loop-r.invariant c.loop-r-test.false
