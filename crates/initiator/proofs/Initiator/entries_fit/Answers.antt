-- `entries_fit` meets its contract.
use mathlib.Core.Path.{sym, ◌∙◌}
use Rattle.initiator.specs.Fits.{entries_fit}
use Rattle.initiator.proofs.Initiator.entries_fit.Goals as goal

pub returns-then-not-all_rest_zero : goal.returns-then-not-all_rest_zero
unfolding entries_fit
returns-then-not-all_rest_zero c = rw (sym c.all_rest_zero.ensures ∙ c.if-not-all_rest_zero.true)

pub returns-then-not-all_rest_zero-2 : goal.returns-then-not-all_rest_zero-2
unfolding entries_fit
returns-then-not-all_rest_zero-2 c =
    let first = c.all_rest_zero in
    let second = c.all_rest_zero-2 in
    rw (
      sym first.ensures ∙ c.if-not-all_rest_zero.false,
      sym second.ensures ∙ c.if-not-all_rest_zero-2.true,
    )

pub returns : goal.returns
unfolding entries_fit
returns c =
    let first = c.all_rest_zero in
    let second = c.all_rest_zero-2 in
    rw (
      sym first.ensures ∙ c.if-not-all_rest_zero.false,
      sym second.ensures ∙ c.if-not-all_rest_zero-2.false,
    ) c.only_participants.ensures
