-- `take_turn` meets its contract: what the questions would have told is known.
use mathlib.Core.Path.{◌≡◌}
use mathlib.Core.Bool.{true}
use Prim.Native.Nat.{◌≤◌}
use Rattle.accepted.specs.Holding.{tables_in}
use Rattle.line_theory.proofs.Accepted.{accepted_size}
use Rattle.machine.specs.Named.{participant_named}
use Rattle.turns.proofs.Turning.{participant_there, is_participant_lem, of_session, turn_initiator, passed_names, passed_fits, session_none, none_waits, taken_room, taken}
use Rattle.turns.proofs.take_turn.Goals as goal

pub overflow_sub-p : goal.overflow_sub-p
overflow_sub-p c = let passes : let a = c.args in of_session (tables_in a.tables.now) a.session a.p a.strands.now ≡ 0 = let a = c.args in session_none (tables_in a.tables.now) a.session a.p a.strands.now c.requires in
    let named : let a = c.args in participant_named a.tables.now.rows.shape.n a.p.0 a.session.initiator.0 ≡ true = let a = c.args in passed_names (tables_in a.tables.now) a.session a.p a.strands.now (passes) in
    let there : let a = c.args in
    ((1 ≤ a.p.0) × (a.p.0 ≤ a.tables.now.rows.shape.n)) × ((1 ≤ a.session.initiator.0) × (a.session.initiator.0 ≤ a.tables.now.rows.shape.n)) = let a = c.args in participant_there a.tables.now.rows.shape.n a.p.0 a.session.initiator.0 (named) in
    (there).0.0

pub deliver-turned-requires : goal.deliver-turned-requires
deliver-turned-requires c = let passes : let a = c.args in of_session (tables_in a.tables.now) a.session a.p a.strands.now ≡ 0 = let a = c.args in session_none (tables_in a.tables.now) a.session a.p a.strands.now c.requires in
    let named : let a = c.args in participant_named a.tables.now.rows.shape.n a.p.0 a.session.initiator.0 ≡ true = let a = c.args in passed_names (tables_in a.tables.now) a.session a.p a.strands.now (passes) in
    let there : let a = c.args in
    ((1 ≤ a.p.0) × (a.p.0 ≤ a.tables.now.rows.shape.n)) × ((1 ≤ a.session.initiator.0) × (a.session.initiator.0 ≤ a.tables.now.rows.shape.n)) = let a = c.args in participant_there a.tables.now.rows.shape.n a.p.0 a.session.initiator.0 (named) in
    let a = c.args in record { strands_value = passed_fits (tables_in a.tables.now) a.session a.p a.strands.now (passes); le_initiator = (there).1; k_value = is_participant_lem a.tables.now.rows.shape.n a.p.0 a.session.initiator.0 (named); fact = none_waits (tables_in a.tables.now) a.session a.p a.strands.now c.requires }

pub post-requires : goal.post-requires
post-requires c = let passes : let a = c.args in of_session (tables_in a.tables.now) a.session a.p a.strands.now ≡ 0 = let a = c.args in session_none (tables_in a.tables.now) a.session a.p a.strands.now c.requires in
    let named : let a = c.args in participant_named a.tables.now.rows.shape.n a.p.0 a.session.initiator.0 ≡ true = let a = c.args in passed_names (tables_in a.tables.now) a.session a.p a.strands.now (passes) in
    let there : let a = c.args in
    ((1 ≤ a.p.0) × (a.p.0 ≤ a.tables.now.rows.shape.n)) × ((1 ≤ a.session.initiator.0) × (a.session.initiator.0 ≤ a.tables.now.rows.shape.n)) = let a = c.args in participant_there a.tables.now.rows.shape.n a.p.0 a.session.initiator.0 (named) in
    let a = c.args in record {
      le_n = accepted_size c.args.tables.now.passed.accepted;
      le_initiator = turn_initiator (tables_in a.tables.now) a.session a.p a.strands.now c.deliver-turned.result c.deliver-turned.ensures
          (there).1.0;
      strands_value = taken_room (tables_in a.tables.now) a.session a.p a.strands.now c.requires c.deliver-turned.result
          c.deliver-turned.ensures;
    }

pub returns : goal.returns
returns c = let done = c.post in
    let a = c.args in
    let whole = taken (tables_in a.tables.now) a.session a.p a.strands.now c.requires c.deliver-turned.result
    c.deliver-turned.ensures
    done.result
    c.post.new.strands
    c.post.ensures.value
    c.post.ensures.strands_after in
    record { value = whole.0; strands_after = whole.1 }
