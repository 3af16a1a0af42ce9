use mathlib.Core.Path.{◌≡◌, sym, subst, ◌∙◌}
use borrow.Author.Rules.{rules}
use lib.ListN.{length}
use Rattle.accepted.specs.Holding.{tables_in}
use Rattle.line_theory.proofs.Accepted.{accepted_size}
use Rattle.lists.proofs.Before.{before_none, before_more, all_pass, one_fails}
use Rattle.machine.specs.Flags.{flag}
use Rattle.participant.specs.declared.Participant.{Participant}
use Rattle.strands.specs.Strands.{length_on}
use Rattle.session.specs.Workers.{participant_at}
use Rattle.session_check.specs.Parts.{PlaceTold}
use Rattle.session_check.proofs.Variants.{report_is, stray_is}
use Rattle.session_check.proofs.Naming.{read_at}
use Rattle.session_check.proofs.Places.{fit_stray, fit_other, fit_report}
use Rattle.session_check.proofs.places_fit.Goals as goal
use Rattle.session_check.proofs.places_fit.Goals.{After-place_holds-w, else-eq-2-via-then-eq-2+else-eq-3, else-eq-2-via-else-eq-2}

pub loop-k-init : goal.loop-k-init
loop-k-init c = before_none

pub place_holds-w-requires : goal.place_holds-w-requires
place_holds-w-requires c = (c.requires.le_initiator, c.loop-k-test.true)

-- what is told of the place
told : (c : After-place_holds-w)
    → let a = c.args in
    let k = c.loop-k.k in
    PlaceTold (tables_in a.tables.now) a.session.initiator.0 a.session.purpose (participant_at a.session k) (flag a.session.machine.awaited k) a.session.machine.ended (length_on a.session.lengths k) a.strands.now k c.place_holds-w.result
told c =
    let a = c.args in
    let k = c.loop-k.k in
    let long : length c.args.session.participants ≡ 16 = search rules in
    let of : Participant → Type 0 = λ p. PlaceTold (tables_in a.tables.now) a.session.initiator.0 a.session.purpose p (flag a.session.machine.awaited k) a.session.machine.ended (length_on a.session.lengths k) a.strands.now k c.place_holds-w.result in
    subst of (read_at a.session.participants k long c.loop-k-test.true) c.place_holds-w.ensures.place_told

pub returns-then-eq : goal.returns-then-eq
returns-then-eq c =
    let a = c.args in
    one_fails c.loop-k.invariant c.loop-k-test.true
    (fit_stray (tables_in a.tables.now) a.session a.strands.now c.loop-k.k c.place_holds-w.result
    (told (goal.at.returns-then-eq c).After-place_holds-w) (sym (stray_is c.place_holds-w.result) ∙ sym c.eq.ensures ∙ c.if-eq.true))

pub above-requires : goal.above-requires
above-requires c =
    let size = accepted_size c.args.tables.now.passed.accepted in
    record {
      le_n = (size.0, (size.1, c.requires.n_value));
      le_initiator = (c.requires.le_initiator, c.loop-k-test.true);
      waits_in_bounds =
          c.place_holds-w.ensures.waits_in_bounds
          (sym (report_is c.place_holds-w.result) ∙ sym c.eq-in-loop-k.ensures ∙ c.if-eq-2.true);
    }

pub returns-then-eq-3 : goal.returns-then-eq-3
returns-then-eq-3 c =
    let a = c.args in
    one_fails c.loop-k.invariant c.loop-k-test.true
    (fit_report (tables_in a.tables.now) a.session a.strands.now c.loop-k.k c.place_holds-w.result
    (told (goal.at.returns-then-eq-3 c).After-place_holds-w)
    (sym (report_is c.place_holds-w.result) ∙ sym c.eq-in-loop-k.ensures ∙ c.if-eq-2.true) c.above.ensures
    (sym (stray_is c.above.result) ∙ sym c.eq-then-eq-2.ensures ∙ c.if-eq-3.true))

pub loop-k-preserved : goal.loop-k-preserved
loop-k-preserved c =
    let a = c.args in
    let l = c.loop-k in
    before_more l.invariant c.loop-k-test.true
    (elim c.else-eq-2.branch [
      | else-eq-2-via-then-eq-2+else-eq-3 w ↦
          fit_report (tables_in a.tables.now) a.session a.strands.now l.k c.place_holds-w.result
          (told (goal.at.loop-k-preserved c).After-place_holds-w)
          (sym (report_is c.place_holds-w.result) ∙ sym c.eq-in-loop-k.ensures ∙ w.if-eq-2.true)
          w.above.ensures
          (sym (stray_is w.above.result) ∙ sym w.eq-then-eq-2.ensures ∙ w.if-eq-3.false)
      | else-eq-2-via-else-eq-2 w ↦
          fit_other (tables_in a.tables.now) a.session a.strands.now l.k c.place_holds-w.result
          (told (goal.at.loop-k-preserved c).After-place_holds-w)
          (sym (stray_is c.place_holds-w.result) ∙ sym c.eq.ensures ∙ c.if-eq.false)
          (sym (report_is c.place_holds-w.result) ∙ sym c.eq-in-loop-k.ensures ∙ w.if-eq-2.false)
    ])

pub returns : goal.returns
returns c = all_pass c.loop-k.invariant c.loop-k-test.false
