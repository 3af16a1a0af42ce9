use mathlib.Core.Path.{ap}
use mathlib.Core.Bool.{Bool, not}
use Prim.Native.Nat.{◌-◌}
use Rattle.lists.proofs.Tests.{or_first, or_second, none_or}
use Rattle.lists.proofs.Before.{before_none, before_more, all_pass, one_fails}
use Rattle.machine.specs.Named.{is_participant}
use Rattle.machine.specs.Flags.{flag, only_participants}
use Rattle.std.proofs.Common.{sym, ◌∙◌}
use Rattle.machine.proofs.only_participants.Goals as goal
use Rattle.machine.proofs.only_participants.Goals.{else-flags-p-via-then-flags-p+else-not-is_participant, else-flags-p-via-else-flags-p}

pub loop-p-init : goal.loop-p-init
loop-p-init c = before_none

pub returns-then-not-is_participant : goal.returns-then-not-is_participant
unfolding only_participants
returns-then-not-is_participant c = let a = c.args in
    let p = c.loop-p.p in
    one_fails c.loop-p.invariant c.loop-p-test.true
    (none_or (not (flag a.flags p)) (is_participant a.n (a.me.0 - 1) p) (ap not c.if-flags-p.true)
    ((sym c.is_participant.ensures ∙ c.if-not-is_participant.true)))

pub loop-p-preserved : goal.loop-p-preserved
loop-p-preserved c = let a = c.args in
    let flagged : Bool = flag a.flags c.loop-p.p in
    let participant : Bool = is_participant a.n (a.me.0 - 1) c.loop-p.p in
    before_more c.loop-p.invariant c.loop-p-test.true
    (elim c.else-flags-p.branch [
      | else-flags-p-via-then-flags-p+else-not-is_participant w ↦
          or_second (not flagged) participant (sym w.is_participant.ensures ∙ w.if-not-is_participant.false)
      | else-flags-p-via-else-flags-p w ↦ or_first (not flagged) participant (ap not w.if-flags-p.false)
    ])

pub returns : goal.returns
unfolding only_participants
returns c = all_pass c.loop-p.invariant c.loop-p-test.false
