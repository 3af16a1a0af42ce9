-- `start_and_finish` meets its contract.
use Rattle.accepted.specs.Holding.{tables_in}
use Rattle.searches.proofs.Finishing.{starts_inside, started_inside, finished_inside}
use Rattle.searches.proofs.start_and_finish.Goals as goal

pub take_start-begun-requires : goal.take_start-begun-requires
take_start-begun-requires c =
    let a = c.args in
    starts_inside (tables_in a.tables.now) a.initiator a.purpose c.strands_inside-strands.result c.strands_inside-strands.ensures
    a.tables.now.passed.accepted.sixteen
    c.requires

pub finish-requires : goal.finish-requires
finish-requires c =
    let a = c.args in
    started_inside (tables_in a.tables.now) a.initiator a.purpose c.strands_inside-strands.result c.take_start-begun.result
    c.take_start-begun.new.strands
    c.strands_inside-strands.ensures
    c.take_start-begun.ensures.value
    c.take_start-begun.ensures.strands_after
    a.tables.now.passed.accepted.sixteen
    c.requires

pub returns : goal.returns
returns c =
    let a = c.args in
    finished_inside (tables_in a.tables.now) a.initiator a.purpose c.strands_inside-strands.result c.take_start-begun.result
    c.take_start-begun.new.strands
    c.strands_inside-strands.ensures
    c.take_start-begun.ensures.value
    c.take_start-begun.ensures.strands_after
    c.finish.result
    c.finish.ensures
