-- `put_message` meets its contract: the head, the count and the pairs in turn.
use mathlib.Core.Path.{refl}
use native.Mathlib.Omega.{arith}
use Rattle.mail.proofs.Turns.{first_room, second_room, third_room, all_stored}
use Rattle.mail.proofs.Messages.{message_parts}
use Rattle.mail.proofs.put_message.Goals as goal

pub put_head-count-requires : goal.put_head-count-requires
put_head-count-requires c = first_room (message_parts c.args.message refl) c.args.out.now 0 (omega (arith, c.requires))

pub put_number-pairs-requires : goal.put_number-pairs-requires
put_number-pairs-requires c = let parts = message_parts c.args.message c.pair_count.ensures.value in
    second_room parts c.args.out.now 0 (omega (arith, c.requires)) (c.put_head-count.ensures.value, c.put_head-count.ensures.out_after)

pub put_pairs-requires : goal.put_pairs-requires
put_pairs-requires c = let parts = message_parts c.args.message c.pair_count.ensures.value in
    third_room parts c.args.out.now 0 (omega (arith, c.requires)) (c.put_head-count.ensures.value, c.put_head-count.ensures.out_after) (c.put_number-pairs.ensures.next, c.put_number-pairs.ensures.bytes)

pub returns : goal.returns
returns c = let parts = message_parts c.args.message c.pair_count.ensures.value in
    let all = all_stored parts c.args.out.now 0 (c.put_head-count.ensures.value, c.put_head-count.ensures.out_after) (c.put_number-pairs.ensures.next, c.put_number-pairs.ensures.bytes) (c.put_pairs.ensures.value, c.put_pairs.ensures.out_after) in
    record { value = omega (arith, all.0); out_after = all.1 }
