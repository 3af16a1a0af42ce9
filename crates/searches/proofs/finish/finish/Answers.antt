use mathlib.Core.Path.{refl, sym, ap, ◌∙◌}
use Rattle.accepted.specs.Holding.{tables_in}
use Rattle.session.specs.Turns.{Ongoing}
use Rattle.searches.proofs.Finishing.{finishing_none, turn_passes, turn_less, turn_more, finishing_all}
use Rattle.searches.proofs.finish.finish.Goals as goal

pub loop-p-init : goal.loop-p-init
loop-p-init c = let a = c.args in (
  refl,
  finishing_none (tables_in a.tables.now) a.session a.strands.now c.lowest_waiting-p.result
      c.requires
      (c.lowest_waiting-p.ensures a.session refl),
)

pub take_turn-next-requires : goal.take_turn-next-requires
take_turn-next-requires c =
    let a = c.args in
    turn_passes (tables_in a.tables.now) (record { session = a.session; strands = a.strands.now })
    (record { session = c.loop-p.next; strands = c.loop-p.strands }) c.loop-p.p c.loop-p.invariant.1 c.loop-p-test.true

pub loop-p-smaller : goal.loop-p-smaller
loop-p-smaller c = let a = c.args in
    turn_less (tables_in a.tables.now) (record { session = a.session; strands = a.strands.now })
    (record { session = c.loop-p.next; strands = c.loop-p.strands }) c.loop-p.p c.loop-p.invariant.1 c.loop-p-test.true
    c.take_turn-next.result c.take_turn-next.new.strands c.take_turn-next.ensures.value c.take_turn-next.ensures.strands_after

pub loop-p-preserved : goal.loop-p-preserved
loop-p-preserved c = let a = c.args in (
  c.take_turn-next.auto.strands ∙ c.loop-p.invariant.0,
  turn_more (tables_in a.tables.now) (record { session = a.session; strands = a.strands.now })
      (record { session = c.loop-p.next; strands = c.loop-p.strands }) c.loop-p.p c.loop-p.invariant.1 c.loop-p-test.true
      c.take_turn-next.result c.take_turn-next.new.strands c.take_turn-next.ensures.value c.take_turn-next.ensures.strands_after
      c.lowest_waiting-p-in-loop-p.result
      (c.lowest_waiting-p-in-loop-p.ensures c.take_turn-next.result refl),
)

pub shape_of-strands : goal.shape_of-strands
shape_of-strands c = c.loop-p.invariant.0

pub returns : goal.returns
returns c = let a = c.args in
    sym (ap (λ (o : Ongoing). o.session)
    (finishing_all (tables_in a.tables.now) (record { session = a.session; strands = a.strands.now })
    (record { session = c.loop-p.next; strands = c.loop-p.strands }) c.loop-p.p c.loop-p.invariant.1 c.loop-p-test.false))
