-- `put_list` meets its contract: the count, then the entries.
use native.Mathlib.Omega.{arith}
use Rattle.writer.proofs.Turns.{first_room, second_room, both_put}
use Rattle.resend_writer.proofs.Entries.{list_parts}
use Rattle.resend_writer.proofs.put_list.Goals as goal

pub put_number-entries-requires : goal.put_number-entries-requires
put_number-entries-requires c = first_room c.args.out.now 0 (list_parts c.args.list c.entry_count.ensures.value) (omega (arith, c.requires))

pub put_entries-requires : goal.put_entries-requires
put_entries-requires c = second_room c.args.out.now 0 (list_parts c.args.list c.entry_count.ensures.value) (omega (arith, c.requires)) (c.put_number-entries.ensures.next, c.put_number-entries.ensures.bytes)

pub returns : goal.returns
returns c = let a = c.args in
    let all = both_put a.out.now 0 (list_parts a.list c.entry_count.ensures.value) (c.put_number-entries.ensures.next, c.put_number-entries.ensures.bytes) (c.put_entries.ensures.value, c.put_entries.ensures.out_after) in
    record { value = omega (arith, all.0); out_after = all.1 }
