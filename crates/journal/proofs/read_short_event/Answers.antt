-- `read_short_event` meets its contract.
use native.Mathlib.Omega.{arith}
use borrow.Author.Rules.{rules}
use Rattle.journal.proofs.Short.{head_bytes, partner_byte, checkpoint_stands, sending_stands, receipt_stands}
use Rattle.journal.proofs.read_short_event.Goals as goal

pub returns-then-kind-eq3 : goal.returns-then-kind-eq3
returns-then-kind-eq3 c = let a = c.args in
    let head = head_bytes a.s.now a.at (search rules) (omega (arith, c.if-kind-eq3.true)) (search rules) in
    checkpoint_stands a.s.now a.at head c.if-kind-eq3.true

pub returns-then-kind-eq1 : goal.returns-then-kind-eq1
returns-then-kind-eq1 c = let a = c.args in
    let head = head_bytes a.s.now a.at (search rules) (omega (arith, c.if-kind-eq1.true)) (search rules) in
    let partner = partner_byte a.s.now a.at (search rules) (search rules) (search rules) in
    sending_stands a.s.now a.at head partner c.if-kind-eq1.true

pub returns-then-kind-eq2 : goal.returns-then-kind-eq2
returns-then-kind-eq2 c = let a = c.args in
    let head = head_bytes a.s.now a.at (search rules) (omega (arith, c.if-kind-eq2.true)) (search rules) in
    let partner = partner_byte a.s.now a.at (search rules) (search rules) (search rules) in
    receipt_stands a.s.now a.at head partner c.if-kind-eq2.true
