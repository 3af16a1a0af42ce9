-- `awaits` meets its contract.
use borrow.Author.Tests.{eq-eqb, ne_eqb}
use Rattle.initiator.specs.Step.{awaits}
use Rattle.initiator.proofs.Initiator.awaits.Goals as goal

pub returns-then-self : goal.returns-then-self
unfolding awaits
returns-then-self c = rw c.if-self.true

pub returns-then-not-awaited-place : goal.returns-then-not-awaited-place
unfolding awaits
returns-then-not-awaited-place c = let a = c.args in
    rw (c.if-self.false, c.if-not-awaited-place.true)

pub returns-then-head-self : goal.returns-then-head-self
unfolding awaits
returns-then-head-self c = let a = c.args in
    rw (
      c.if-self.false,
      c.if-not-awaited-place.false,
      ne_eqb a.message.head.purpose a.self.purpose c.if-head-self.true,
    )

pub returns-then-head-ne2 : goal.returns-then-head-ne2
unfolding awaits
returns-then-head-ne2 c = let a = c.args in
    rw (
      c.if-self.false,
      c.if-not-awaited-place.false,
      eq-eqb a.message.head.purpose a.self.purpose c.if-head-self.false,
      ne_eqb a.message.head.kind 2 c.if-head-ne2.true,
    )

pub returns : goal.returns
unfolding awaits
returns c = let a = c.args in
    rw (
      c.if-self.false,
      c.if-not-awaited-place.false,
      eq-eqb a.message.head.purpose a.self.purpose c.if-head-self.false,
      eq-eqb a.message.head.kind 2 c.if-head-ne2.false,
    ) c.whole_if_first.ensures
