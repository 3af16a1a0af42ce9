-- `is_there` meets its contract.
use native.Mathlib.Omega.{arith}
use Rattle.consistency.proofs.There.{there_absent, there_none, there_some}
use Rattle.consistency.proofs.is_there.Goals as goal

pub returns-then-not-present : goal.returns-then-not-present
returns-then-not-present c = let a = c.args in
    there_absent a.present a.count a.r.0 (c.if-not-present.true)

pub returns-then-r-lt1 : goal.returns-then-r-lt1
returns-then-r-lt1 c = let a = c.args in
    there_none a.present a.count a.r.0 (c.if-not-present.false) (omega arith)

pub returns : goal.returns
returns c = let a = c.args in
    there_some a.present a.count a.r.0 (c.if-not-present.false) (omega arith)
