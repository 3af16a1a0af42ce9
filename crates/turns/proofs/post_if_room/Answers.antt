-- `post_if_room` meets its contract.
use mathlib.Core.Path.{◌≡◌, sym, ◌∙◌}
use mathlib.Core.Bool.{true}
use Prim.Native.Nat.{◌-◌}
use Rattle.strands.specs.Strands.{have_room}
use Rattle.session.specs.Steps.{with_posted}
use Rattle.turns.specs.Parts.{strands_with}
use Rattle.turns.proofs.Answers.{no_room, with_room}
use Rattle.turns.proofs.post_if_room.Goals as goal

pub returns-then-not-have_room : goal.returns-then-not-have_room
returns-then-not-have_room c = let a = c.args in
    let told = c.have_room in
    let whole = no_room (with_posted a.turned) a.strands.now (strands_with a.n a.turned a.strands.now) _ (sym told.ensures ∙ c.if-not-have_room.true) in
    record { answer = whole.0; strands_after = whole.1 }

pub post-requires : goal.post-requires
post-requires c = let roomy : let a = c.args in
    have_room a.n (a.turned.session.initiator.0 - 1) a.turned.outgoing a.strands.now ≡ true = let told = c.have_room in sym told.ensures ∙ c.if-not-have_room.false in
    let pre = c.requires in
    record { le_n = pre.le_n; le_initiator = pre.le_initiator; strands_value = roomy }

pub returns : goal.returns
returns c = let roomy : let a = c.args in
    have_room a.n (a.turned.session.initiator.0 - 1) a.turned.outgoing a.strands.now ≡ true = let told = c.have_room in sym told.ensures ∙ c.if-not-have_room.false in
    let a = c.args in
    let done = c.post in
    let whole = with_room (with_posted a.turned) a.strands.now (strands_with a.n a.turned a.strands.now) _ done.result
    c.post.new.strands
    (roomy)
    c.post.ensures.value
    c.post.ensures.strands_after in
    record { answer = whole.0; strands_after = whole.1 }
