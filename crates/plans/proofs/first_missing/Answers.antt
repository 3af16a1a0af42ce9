-- `first_missing` meets its contract.
use borrow.Author.Tests.{lt-ltb, le-ltb}
use Rattle.plans.proofs.first_missing.Goals as goal

pub returns-then-received-sent : goal.returns-then-received-sent
returns-then-received-sent c = let a = c.args in rw (lt-ltb a.received.0 a.sent.0 c.if-received-sent.true)

pub returns : goal.returns
returns c = let a = c.args in rw (le-ltb a.received.0 a.sent.0 c.if-received-sent.false)
