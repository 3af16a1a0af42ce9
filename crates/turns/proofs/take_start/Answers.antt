-- `take_start` meets its contract: what the questions would have told is known.
use Prim.Native.Nat.{◌≤◌}
use Rattle.accepted.specs.Holding.{tables_in}
use Rattle.book.specs.Lent.{Tables}
use Rattle.line_theory.proofs.Accepted.{accepted_size}
use Rattle.turns.proofs.Starting.{start_there, start_initiator, named_none, started_room, started_taken}
use Rattle.turns.proofs.take_start.Goals as goal

pub begin-turned-requires : goal.begin-turned-requires
begin-turned-requires c = let tables : Tables = let a = c.args in tables_in a.tables.now in
    let there : let a = c.args in (1 ≤ a.initiator.0) × (a.initiator.0 ≤ a.tables.now.rows.shape.n) = let a = c.args in
    start_there (tables) a.initiator a.purpose a.strands.now
    (named_none (tables) a.initiator a.purpose a.strands.now c.requires) in
    there

pub post-requires : goal.post-requires
post-requires c = let tables : Tables = let a = c.args in tables_in a.tables.now in
    let there : let a = c.args in (1 ≤ a.initiator.0) × (a.initiator.0 ≤ a.tables.now.rows.shape.n) = let a = c.args in
    start_there (tables) a.initiator a.purpose a.strands.now
    (named_none (tables) a.initiator a.purpose a.strands.now c.requires) in
    let a = c.args in record { le_n = accepted_size c.args.tables.now.passed.accepted; le_initiator = start_initiator (tables) a.initiator a.purpose a.strands.now c.begin-turned.result c.begin-turned.ensures (there).0; strands_value = started_room (tables) a.initiator a.purpose a.strands.now c.requires c.begin-turned.result c.begin-turned.ensures }

pub returns : goal.returns
returns c = let tables : Tables = let a = c.args in tables_in a.tables.now in
    let done = c.post in
    let a = c.args in
    let whole = started_taken (tables) a.initiator a.purpose a.strands.now c.requires c.begin-turned.result c.begin-turned.ensures done.result
    c.post.new.strands
    c.post.ensures.value
    c.post.ensures.strands_after in
    record { value = whole.0; strands_after = whole.1 }
