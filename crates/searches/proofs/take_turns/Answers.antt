use mathlib.Core.Path.{◌≡◌, refl, sym, ap, ◌∙◌}
use lib.ListN.{get_or}
use Rattle.book.specs.Lent.{Tables, lent}
use Rattle.book.specs.declared.Process.{Process}
use Rattle.book.proofs.Refusals.{value_is}
use Rattle.session.specs.Turns.{Ongoing}
use Rattle.session.specs.Calls.{session_after}
use Rattle.searches.proofs.Running.{turn_refused, taken_none, turn_taken, taken_all}
use Rattle.searches.proofs.take_turns.Goals.{in-Ok, in_default}
use Rattle.searches.proofs.take_turns.Goals as goal

pub loop-i-init : goal.loop-i-init
loop-i-init c = let a = c.args in
    (refl, taken_none (lent a.shape a.sent.now a.received.now) (record { session = a.session; strands = a.strands.now }) a.list.now)

pub bounds-list-i : goal.bounds-list-i
bounds-list-i c = c.loop-i-test.true

pub loop-i-preserved : goal.loop-i-preserved
loop-i-preserved c = let a = c.args in
    let l = c.loop-i in
    let t : Tables = lent a.shape a.sent.now a.received.now in
    let o : Ongoing = record { session = l.next; strands = l.strands } in
    let p : Process = record { 0 = get_or a.list.now l.i 0 } in
    let next : c.match-turn.next ≡ session_after t l.next p l.strands = elim c.match-turn.branch [
      | in-Ok w ↦ w.next-is ∙ value_is _ _ c.turn.ensures.answer w.in-Ok.is
      | in_default w ↦ w.next-is ∙ turn_refused t o p c.turn.ensures.answer w.in_default.is
    ] in (
      c.turn.auto.strands ∙ l.invariant.0,
      turn_taken t (record { session = a.session; strands = a.strands.now }) o a.list.now l.i l.invariant.1 _ c.match-turn.next c.turn.new.strands
          c.loop-i-test.true refl next c.turn.ensures.strands_after,
    )

pub shape_of-strands : goal.shape_of-strands
shape_of-strands c = c.loop-i.invariant.0

pub returns : goal.returns
returns c =
    let a = c.args in
    let all = sym (taken_all (lent a.shape a.sent.now a.received.now) (record { session = a.session; strands = a.strands.now })
    (record { session = c.loop-i.next; strands = c.loop-i.strands }) a.list.now c.loop-i.i c.loop-i.invariant.1 c.loop-i-test.false) in
    record { value = ap (λ (o : Ongoing). o.session) all; strands_after = ap (λ (o : Ongoing). o.strands) all }
