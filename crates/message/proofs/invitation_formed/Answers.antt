-- `invitation_formed` meets its contract.
use mathlib.Core.Path.{sym}
use borrow.Author.Tests.{eq-eqb, ne_eqb}
use Rattle.message.proofs.Messages.{no_invitation, last_invitation, searching_invitation}
use Rattle.message.proofs.invitation_formed.Goals as goal

pub returns-then-head-ne1 : goal.returns-then-head-ne1
returns-then-head-ne1 c = sym (no_invitation c.args.message c.if-head-ne1.true)

pub returns-then-head-eq2 : goal.returns-then-head-eq2
returns-then-head-eq2 c = let a = c.args in
    rw (last_invitation a.message c.if-head-ne1.false c.if-head-eq2.true, c.pair_count-pairs.ensures.value)

pub returns-then-pairs-eq1 : goal.returns-then-pairs-eq1
returns-then-pairs-eq1 c = let a = c.args in
    rw (
      searching_invitation a.message c.if-head-ne1.false c.if-head-eq2.false,
      sym c.pair_count-pairs.ensures.value,
      eq-eqb c.pair_count-pairs.result 1 c.if-pairs-eq1.true,
    )

pub returns-else-pairs-eq1 : goal.returns-else-pairs-eq1
returns-else-pairs-eq1 c = let a = c.args in
    rw (
      searching_invitation a.message c.if-head-ne1.false c.if-head-eq2.false,
      sym c.pair_count-pairs.ensures.value,
      ne_eqb c.pair_count-pairs.result 1 c.if-pairs-eq1.false,
    )
