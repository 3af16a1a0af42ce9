-- `message_size` meets its contract: the head, the count and the pairs.
use native.Mathlib.Omega.{arith}
use Rattle.mail.proofs.Pairs.{number_few}
use Rattle.mail.proofs.Turns.{three_long}
use Rattle.mail.proofs.Messages.{message_parts}
use Rattle.mail.proofs.message_size.Goals as goal

pub overflow_add-result : goal.overflow_add-result
overflow_add-result c = omega (arith, number_few c.pair_count.result (omega arith) c.size_of.ensures)

pub overflow_add-result-2 : goal.overflow_add-result-2
overflow_add-result-2 c = omega (arith, number_few c.pair_count.result (omega arith) c.size_of.ensures)

pub returns : goal.returns
returns c =
    record {
      value = omega (arith, three_long (message_parts c.args.message c.pair_count.ensures.value));
      upper_bound = omega (arith, number_few c.pair_count.result (omega arith) c.size_of.ensures);
    }
