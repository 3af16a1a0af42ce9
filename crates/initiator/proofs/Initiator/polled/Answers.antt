use mathlib.Core.Path.{refl, ◌∙◌}
use native.Mathlib.Omega.{arith}
use Rattle.lists.proofs.Filling.{filled_none, filled_more, filled_all}
use Rattle.initiator.proofs.Polling.{both_asked, first_fails, asked_all}
use Rattle.initiator.proofs.Initiator.polled.Goals as goal
use Rattle.initiator.proofs.Initiator.polled.Goals.{then-is_participant, else-is_participant}

pub loop-p-init : goal.loop-p-init
loop-p-init c = filled_none (omega arith)

pub loop-p-preserved : goal.loop-p-preserved
loop-p-preserved c =
    let called = c.is_participant in
    filled_more c.loop-p.invariant c.loop-p-test.true
    (elim c.if-is_participant.branch [
      | then-is_participant w ↦ both_asked _ _ _ _ called.ensures w.if-is_participant.true w.flags-is
      | else-is_participant w ↦ first_fails _ _ _ _ called.ensures w.if-is_participant.false w.flags-is
    ])

pub returns : goal.returns
returns c = let told = c.columns_differ-differ in
    filled_all c.loop-p.invariant refl c.loop-p-test.false
    ∙ asked_all c.args.self told.result told.ensures
