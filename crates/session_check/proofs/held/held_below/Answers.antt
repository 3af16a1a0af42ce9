-- `held_below` meets its contract: by the head, if there is one.
use mathlib.Core.Path.{subst}
use Rattle.std.specs.Prelude.{Some}
use Rattle.message.specs.Parts.{HeadFound}
use Rattle.session_check.proofs.Holding.{told_nothing, told_formless, told_from, told_strange, told_report}
use Rattle.session_check.proofs.held.held_below.Goals as goal
use Rattle.session_check.proofs.held.held_below.Goals.{In-Some}

pub returns-then-s-eq0 : goal.returns-then-s-eq0
returns-then-s-eq0 c =
    let a = c.args in
    told_nothing a.n a.initiator.0 a.p a.k a.s.now c.if-s-eq0.true

pub returns-in_default : goal.returns-in_default
returns-in_default c =
    let a = c.args in
    told_formless a.n a.initiator.0 a.p a.k a.s.now c.if-s-eq0.false
    (subst (HeadFound a.n a.s.now) c.in_default.is c.read_head.ensures)

found : (c : In-Some) → HeadFound c.args.n c.args.s.now (Some (c.in-Some.head, c.in-Some.field-0-1))
found c = subst (HeadFound c.args.n c.args.s.now) c.in-Some.is c.read_head.ensures

pub returns-then-sender-initiator : goal.returns-then-sender-initiator
returns-then-sender-initiator c =
    let a = c.args in
    told_from a.n a.initiator.0 a.p a.k a.s.now c.if-s-eq0.false _ _ (found (goal.at.returns-then-sender-initiator c).In-Some) c.if-sender-initiator.true
    c.held_down.ensures

pub returns-then-sender-k : goal.returns-then-sender-k
returns-then-sender-k c =
    let a = c.args in
    told_strange a.n a.initiator.0 a.p a.k a.s.now c.if-s-eq0.false _ _ (found (goal.at.returns-then-sender-k c).In-Some) c.if-sender-initiator.false
    c.if-sender-k.true

pub returns : goal.returns
returns c =
    let a = c.args in
    told_report a.n a.initiator.0 a.p a.k a.s.now c.if-s-eq0.false _ _ (found (goal.at.returns c).In-Some) c.if-sender-initiator.false
    c.if-sender-k.false
