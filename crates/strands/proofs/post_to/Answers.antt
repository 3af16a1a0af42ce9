-- `post_to` meets its contract: a message into the part of the buffer from its slot on, or nothing.
use mathlib.Core.Path.{sym, ap, ◌∙◌}
use Prim.Native.Nat.{ℕ, ◌+◌, ◌≤◌}
use native.Mathlib.Omega.{arith}
use lib.ListN.{length}
use lib.Seq.{sets}
use Rattle.mail.specs.Outgoing.{bytes_to}
use Rattle.mail.proofs.Turns.{part_room, part_stored}
use Rattle.mail.proofs.Messages.{bytes_none}
use Rattle.strands.specs.Strands.{strand_start}
use Rattle.strands.proofs.Slots.{room_is}
use Rattle.strands.proofs.post_to.Goals as goal
use Rattle.strands.proofs.post_to.Goals.{After-strand_start-at}

pub returns-then-not-to-k : goal.returns-then-not-to-k
returns-then-not-to-k c = let a = c.args in
    let nothing = sym (bytes_none a.outgoing a.k (c.if-not-to-k.true)) in
    record { value = ap length nothing; strands_after = ap (sets a.strands.now (strand_start a.n a.initiator a.k)) nothing }

room : (c : After-strand_start-at)
    → let a = c.args in
    c.strand_start-at.result + length (bytes_to a.outgoing a.k) ≤ length a.strands.now
room c =
    let a = c.args in
    let goes = c.if-not-to-k.false in
    omega (arith, c.strand_start-at.ensures.value, room_is a.n a.initiator a.outgoing (length a.strands.now) a.k goes c.requires.strands_value)

pub slice_bounds-put_to-start : goal.slice_bounds-put_to-start
slice_bounds-put_to-start c = omega (arith, room (goal.at.slice_bounds-put_to-start c).After-strand_start-at)

pub slice_bounds-put_to-count : goal.slice_bounds-put_to-count
slice_bounds-put_to-count c = omega (arith, room (goal.at.slice_bounds-put_to-count c).After-strand_start-at)

pub put_to-requires : goal.put_to-requires
put_to-requires c = let a = c.args in
    (c.requires.k_bound, part_room (bytes_to a.outgoing a.k) a.strands.now c.strand_start-at.result (room (goal.at.put_to-requires c).After-strand_start-at))

pub returns : goal.returns
returns c = let a = c.args in
    let bytes = bytes_to a.outgoing a.k in
    let e = c.strand_start-at.ensures.value in
    record {
      value = c.put_to.ensures.value;
      strands_after = part_stored bytes a.strands.now c.strand_start-at.result (room (goal.at.returns c).After-strand_start-at) c.put_to.ensures.out_after
          ∙ ap (λ (at : ℕ). sets a.strands.now at bytes) e;
    }
