-- `participant_named` meets its contract.
use mathlib.Core.Path.{sym, ◌∙◌}
use mathlib.Core.Bool.{not, ◌&&◌}
use lib.Dec.{eqb}
use Rattle.book.specs.Names.{is_named}
use Rattle.lists.proofs.Tests.{and_first, and_rest}
use Rattle.machine.proofs.participant_named.Goals as goal

pub returns-then-not-is_named : goal.returns-then-not-is_named
returns-then-not-is_named c = let a = c.args in
    let told = c.is_named in
    sym (and_first (is_named a.n a.me.0) (is_named a.n a.initiator.0 && not (eqb a.me.0 a.initiator.0))
    (sym told.ensures ∙ c.if-not-is_named.true))

pub returns-then-not-is_named-2 : goal.returns-then-not-is_named-2
returns-then-not-is_named-2 c = let a = c.args in
    let told = c.is_named in
    let second = c.is_named-2 in
    sym (and_rest (is_named a.n a.me.0) (is_named a.n a.initiator.0 && not (eqb a.me.0 a.initiator.0))
    (sym told.ensures ∙ c.if-not-is_named.false)
    ∙ and_first (is_named a.n a.initiator.0) (not (eqb a.me.0 a.initiator.0))
    (sym second.ensures ∙ c.if-not-is_named-2.true))

pub returns : goal.returns
returns c = let a = c.args in
    let told = c.is_named in
    let second = c.is_named-2 in
    c.ne.ensures ∙ sym (and_rest (is_named a.n a.me.0) (is_named a.n a.initiator.0 && not (eqb a.me.0 a.initiator.0))
    (sym told.ensures ∙ c.if-not-is_named.false)
    ∙ and_rest (is_named a.n a.initiator.0) (not (eqb a.me.0 a.initiator.0))
    (sym second.ensures ∙ c.if-not-is_named-2.false))
