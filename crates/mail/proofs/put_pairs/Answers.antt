use Prim.Native.Nat.{ℕ}
use Rattle.consistency.specs.Known.{counters}
use Rattle.mail.proofs.Turns.{put_none, put_room, put_more, put_all, put_came}
use Rattle.mail.proofs.Pairs.{pair_parts, process_room, counter_room, pair_stored, no_pair_stored}
use Rattle.mail.proofs.put_pairs.Goals as goal
use Rattle.mail.proofs.put_pairs.Goals.{then-counter, else-counter}

pub loop-p-init : goal.loop-p-init
loop-p-init c = put_none (pair_parts (counters c.args.news)) _ _

pub put_number-next-requires : goal.put_number-next-requires
put_number-next-requires c = process_room (counters c.args.news) c.loop-p.p c.if-counter.true c.loop-p.out c.loop-p.next (put_room (pair_parts (counters c.args.news)) _ _ c.requires c.loop-p.invariant c.loop-p-test.true)

pub put_number-next-requires-then-counter : goal.put_number-next-requires-then-counter
put_number-next-requires-then-counter c = counter_room (counters c.args.news) c.loop-p.p c.if-counter.true c.from.ensures c.loop-p.out c.loop-p.next
    (put_room (pair_parts (counters c.args.news)) _ _ c.requires c.loop-p.invariant c.loop-p-test.true) (c.put_number-next.ensures.next, c.put_number-next.ensures.bytes)

pub loop-p-preserved : goal.loop-p-preserved
loop-p-preserved c = let news : ℕ → ℕ = counters c.args.news in
    let there = c.loop-p-test.true in
    let parts = pair_parts news in
    elim c.if-counter.branch [
      | then-counter w ↦
          let first = w.put_number-next.ensures in
          let second = w.put_number-next-then-counter.ensures in
          put_came w.out-is w.next-is
          (put_more parts _ _ c.loop-p.invariant there
          (pair_stored news c.loop-p.p w.if-counter.true w.from.ensures c.loop-p.out c.loop-p.next (first.next, first.bytes) (second.next, second.bytes)))
      | else-counter w ↦
          put_came w.out-is w.next-is
          (put_more parts _ _ c.loop-p.invariant there (no_pair_stored news c.loop-p.p w.if-counter.false c.loop-p.out c.loop-p.next))
    ]

pub shape_of-out : goal.shape_of-out
shape_of-out c = c.loop-p.invariant.same

pub returns : goal.returns
returns c =
    let both = put_all (pair_parts (counters c.args.news)) _ _ c.loop-p.invariant c.loop-p-test.false in record { value = both.0; out_after = both.1 }
