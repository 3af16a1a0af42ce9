-- `put_head` meets its contract: three numbers in turn.
use Rattle.mail.proofs.Turns.{first_room, second_room, third_room, all_stored}
use Rattle.mail.proofs.Messages.{head_parts}
use Rattle.mail.proofs.put_head.Goals as goal

pub put_number-second-requires : goal.put_number-second-requires
put_number-second-requires c = first_room (head_parts c.args.head) c.args.out.now c.args.at c.requires

pub put_number-third-requires : goal.put_number-third-requires
put_number-third-requires c = second_room (head_parts c.args.head) c.args.out.now c.args.at c.requires (c.put_number-second.ensures.next, c.put_number-second.ensures.bytes)

pub put_number-requires : goal.put_number-requires
put_number-requires c = third_room (head_parts c.args.head) c.args.out.now c.args.at c.requires (c.put_number-second.ensures.next, c.put_number-second.ensures.bytes) (c.put_number-third.ensures.next, c.put_number-third.ensures.bytes)

pub returns : goal.returns
returns c = let both = all_stored (head_parts c.args.head) c.args.out.now c.args.at (c.put_number-second.ensures.next, c.put_number-second.ensures.bytes) (c.put_number-third.ensures.next, c.put_number-third.ensures.bytes)
    (c.put_number.ensures.next, c.put_number.ensures.bytes) in record { value = both.0; out_after = both.1 }
