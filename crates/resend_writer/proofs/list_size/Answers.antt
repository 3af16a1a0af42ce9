-- `list_size` meets its contract: the count, then the entries.
use native.Mathlib.Omega.{arith}
use Rattle.varint.proofs.WriteTurns.{size_most}
use Rattle.writer.proofs.Turns.{long}
use Rattle.resend_writer.proofs.Entries.{list_parts}
use Rattle.resend_writer.proofs.list_size.Goals as goal

pub overflow_add-result : goal.overflow_add-result
overflow_add-result c = omega (arith, c.size_of.ensures, size_most c.entry_count.result (omega arith))

pub returns : goal.returns
returns c = let parts = list_parts c.args.list c.entry_count.ensures.value in
    omega (arith, c.size_of.ensures, c.entries_size.ensures.value, long parts)
