-- `on_strand` meets its contract.
use native.Mathlib.Omega.{arith}
use Rattle.session_steps.proofs.Steps.{silent_strand, reply_on_strand}
use Rattle.session_steps.proofs.on_strand.Goals as goal

pub returns-then-not-to-initiator : goal.returns-then-not-to-initiator
returns-then-not-to-initiator c = let a = c.args in
    silent_strand a.k a.initiator a.outgoing c.nothing.result (c.if-not-to-initiator.true) c.nothing.ensures

pub returns : goal.returns
returns c = let a = c.args in
    let news = c.row-news in
    reply_on_strand a.k a.initiator a.outgoing c.only_to.result _ _ news.result (c.if-not-to-initiator.false) (omega arith)
    (omega arith)
    news.ensures
    c.only_to.ensures
