-- `restart_fits` meets its contract.
use mathlib.Core.Path.{sym, ◌∙◌}
use borrow.Author.Tests.{eq-eqb, ne_eqb}
use Rattle.initiator.specs.Fits.{restart_fits}
use Rattle.initiator.proofs.Initiator.restart_fits.Goals as goal

pub returns-then-candidate-ne1 : goal.returns-then-candidate-ne1
unfolding restart_fits
returns-then-candidate-ne1 c = rw (ne_eqb c.args.self.candidate.0 1 c.if-candidate-ne1.true)

pub returns-then-not-all_not_known : goal.returns-then-not-all_not_known
unfolding restart_fits
returns-then-not-all_not_known c = let self = c.args.self in
    let first = c.all_not_known in
    rw (
      eq-eqb self.candidate.0 1 c.if-candidate-ne1.false,
      sym first.ensures ∙ c.if-not-all_not_known.true,
    )

pub returns : goal.returns
unfolding restart_fits
returns c = let self = c.args.self in
    let first = c.all_not_known in
    rw (
      eq-eqb self.candidate.0 1 c.if-candidate-ne1.false,
      sym first.ensures ∙ c.if-not-all_not_known.false,
    ) c.all_not_known-2.ensures
