-- `entry_size` meets its contract: a bound for each of the four numbers.
use native.Mathlib.Omega.{arith}
use Rattle.resend_writer.proofs.Entries.{process_small, counter_small, entry_size}
use Rattle.resend_writer.proofs.entry_size.Goals as goal

pub overflow_add-result : goal.overflow_add-result
overflow_add-result c =
    let sender = process_small (omega (arith, c.requires)) c.size_of-sender.ensures in
    let receiver = process_small (omega arith) c.size_of-receiver.ensures in
    omega (arith, sender, receiver)

pub overflow_add-result-2 : goal.overflow_add-result-2
overflow_add-result-2 c =
    let sender = process_small (omega (arith, c.requires)) c.size_of-sender.ensures in
    let receiver = process_small (omega arith) c.size_of-receiver.ensures in
    let first = counter_small (omega arith) c.from.ensures c.size_of.ensures in
    omega (arith, sender, receiver, first)

pub overflow_add-result-3 : goal.overflow_add-result-3
overflow_add-result-3 c =
    let sender = process_small (omega (arith, c.requires)) c.size_of-sender.ensures in
    let receiver = process_small (omega arith) c.size_of-receiver.ensures in
    let first = counter_small (omega arith) c.from.ensures c.size_of.ensures in
    let last = counter_small (omega arith) c.from-2.ensures c.size_of-2.ensures in
    omega (arith, sender, receiver, first, last)

pub returns : goal.returns
returns c =
    let a = c.args in
    let sender = process_small (omega (arith, c.requires)) c.size_of-sender.ensures in
    let receiver = process_small (omega arith) c.size_of-receiver.ensures in
    let first = counter_small (omega arith) c.from.ensures c.size_of.ensures in
    let last = counter_small (omega arith) c.from-2.ensures c.size_of-2.ensures in
    record {
      value = entry_size a.i a.first.0 a.last.0 c.from.ensures c.from-2.ensures
          c.size_of-sender.ensures c.size_of-receiver.ensures c.size_of.ensures c.size_of-2.ensures;
      upper_bound = omega (arith, sender, receiver, first, last);
    }
