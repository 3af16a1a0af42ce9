-- `wait_fits` meets its contract.
use mathlib.Core.Path.{◌≡◌, sym, ◌∙◌}
use mathlib.Core.Bool.{true, ◌||◌}
use borrow.Author.Tests.{not-true, not-false}
use Rattle.lists.proofs.Tests.{or_first, or_second}
use Rattle.machine.specs.Flags.{someone}
use Rattle.initiator.specs.Fits.{wait_fits}
use Rattle.initiator.proofs.Initiator.wait_fits.Goals as goal
use Rattle.initiator.proofs.Initiator.wait_fits.Goals.{else-not-self-via-then-not-self+else-not-someone, else-not-self-via-else-not-self}

pub returns-then-not-all_none_above : goal.returns-then-not-all_none_above
unfolding wait_fits
returns-then-not-all_none_above c = rw (sym c.all_none_above.ensures ∙ c.if-not-all_none_above.true)

pub returns-then-not-someone : goal.returns-then-not-someone
unfolding wait_fits
returns-then-not-someone c =
    let ended = not-true c.args.self.ended c.if-not-self.true in
    let no_one = sym c.someone.ensures ∙ c.if-not-someone.true in
    rw (sym c.all_none_above.ensures ∙ c.if-not-all_none_above.false, ended, no_one)

pub returns : goal.returns
unfolding wait_fits
returns c =
    let above = c.all_none_above in
    let self = c.args.self in
    let waits : (self.ended || someone self.awaited) ≡ true =
    elim c.else-not-self.branch [
      | else-not-self-via-then-not-self+else-not-someone w ↦ or_second self.ended (someone self.awaited) (sym w.someone.ensures ∙ w.if-not-someone.false)
      | else-not-self-via-else-not-self w ↦ or_first self.ended (someone self.awaited) (not-false self.ended w.if-not-self.false)
    ] in
    rw (sym above.ensures ∙ c.if-not-all_none_above.false, waits)
