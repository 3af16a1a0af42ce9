-- `held_on` meets its contract: what is told of the strand, and where that is a report, what it is to the initiator.
use mathlib.Core.Path.{◌≡◌, subst}
use Prim.Native.Nat.{◌-◌}
use borrow.Author.Rules.{rules}
use borrow.Author.Tests.{not-true, not-false}
use lib.ListN.{length}
use Rattle.participant.specs.declared.Participant.{Participant}
use Rattle.strands.specs.Strands.{length_on}
use Rattle.session.specs.Workers.{participant_at}
use Rattle.session.specs.Fits.{strand_within}
use Rattle.session_check.specs.Parts.{bytes_on, Told}
use Rattle.session_check.proofs.Variants.{report_is}
use Rattle.session_check.proofs.Naming.{read_at}
use Rattle.session_check.proofs.Holding.{held_below, held_above}
use Rattle.std.proofs.Common.{sym, ◌∙◌}
use Rattle.session_check.proofs.held.held_on.Goals as goal

pub below-w-requires : goal.below-w-requires
unfolding strand_within
below-w-requires c = record { le_n = (c.requires.le_n.0, c.requires.le_n.1.0); le_initiator = c.requires.le_initiator; strands_value = c.requires.k_value }

pub returns-then-ne : goal.returns-then-ne
returns-then-ne c =
    let a = c.args in
    let long : length c.args.session.participants ≡ 16 = search rules in
    let told : Told a.n a.session.initiator.0 (participant_at a.session a.k) a.k (bytes_on a.n (a.session.initiator.0 - 1) (length_on a.session.lengths a.k) a.strands.now a.k) c.below-w.result = let of : Participant → Type 0 = λ p. Told a.n a.session.initiator.0 p a.k (bytes_on a.n (a.session.initiator.0 - 1) (length_on a.session.lengths a.k) a.strands.now a.k) c.below-w.result in
    subst of (read_at a.session.participants a.k long c.requires.le_initiator.1) c.below-w.ensures.told in
    held_below a.n a.session a.strands.now a.k c.below-w.result told (sym (report_is c.below-w.result) ∙ not-true _ (sym c.ne.ensures ∙ c.if-ne.true))

pub above-requires : goal.above-requires
above-requires c = record { le_n = c.requires.le_n; le_initiator = c.requires.le_initiator; waits_in_bounds = c.below-w.ensures.waits_in_bounds (sym (report_is c.below-w.result) ∙ not-false _ (sym c.ne.ensures ∙ c.if-ne.false)) }

pub returns : goal.returns
returns c =
    let a = c.args in
    let long : length c.args.session.participants ≡ 16 = search rules in
    let told : Told a.n a.session.initiator.0 (participant_at a.session a.k) a.k (bytes_on a.n (a.session.initiator.0 - 1) (length_on a.session.lengths a.k) a.strands.now a.k) c.below-w.result = let of : Participant → Type 0 = λ p. Told a.n a.session.initiator.0 p a.k (bytes_on a.n (a.session.initiator.0 - 1) (length_on a.session.lengths a.k) a.strands.now a.k) c.below-w.result in
    subst of (read_at a.session.participants a.k long c.requires.le_initiator.1) c.below-w.ensures.told in
    held_above a.n a.session a.strands.now a.k c.below-w.result told (sym (report_is c.below-w.result) ∙ not-false _ (sym c.ne.ensures ∙ c.if-ne.false)) c.above.ensures
