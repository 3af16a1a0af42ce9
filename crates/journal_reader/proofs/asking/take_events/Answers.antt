use native.Mathlib.Omega.{arith}
use borrow.Author.Rules.{rules}
use Rattle.book.specs.declared.Question.TheVariants.{EventFormed}
use Rattle.book.proofs.Refusals.{refuses, hands_on}
use Rattle.journal_reader.proofs.AskingLoop.{sofar_begun, sofar_sixteen, sofar_fits, sofar_broken, sofar_refused, sofar_more, sofar_ended}
use Rattle.journal_reader.proofs.asking.take_events.Goals as goal

pub loop-next-init : goal.loop-next-init
loop-next-init c = let pre = c.requires in
    sofar_begun _ _ _ _ _ pre.0 pre.1.0 c.none_underway-underway.ensures c.first_counts-counts.ensures

pub returns-in_default : goal.returns-in_default
returns-in_default c = refuses EventFormed _ (sofar_broken _ _ _ _ _ _ _ c.loop-next.invariant c.loop-next-test.true c.in_default.ensures)

pub slice_bounds-take_event-end-in-loop-next : goal.slice_bounds-take_event-end-in-loop-next
slice_bounds-take_event-end-in-loop-next c = let long = sofar_sixteen _ _ _ _ _ _ _ c.loop-next.invariant c.requires.0 in
    search rules

pub take_event-requires : goal.take_event-requires
take_event-requires c = let pre = c.requires in
    (pre.0, sofar_fits _ _ _ _ _ _ _ c.loop-next.invariant pre.0 c.loop-next-test.true pre.1.1)

pub returns-in_err-total : goal.returns-in_err-total
returns-in_err-total c =
    hands_on _ c.in_err-total.field-0.0 _ c.from_residual.ensures.1 (λ f same. same)
    (sofar_refused _ _ _ _ _ _ _ c.loop-next.invariant _ _ c.in-Some.ensures _ _ _ c.take_event.ensures _ c.in_err-total.was)

pub loop-next-smaller : goal.loop-next-smaller
loop-next-smaller c = omega (arith, c.in-Some.ensures.onward, c.loop-next-test.true)

pub loop-next-preserved : goal.loop-next-preserved
loop-next-preserved c = sofar_more _ _ _ _ _ _ _ c.loop-next.invariant _ _
    c.in-Some.ensures _ _ _
    c.take_event.ensures _ c.in_ok-total.was c.take_event.auto.underway

pub returns : goal.returns
returns c = sofar_ended _ _ _ _ _ _ _ c.loop-next.invariant c.loop-next-test.false
