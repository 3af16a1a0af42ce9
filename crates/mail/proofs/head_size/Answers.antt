-- `head_size` meets its contract: a bound for each of the three numbers.
use native.Mathlib.Omega.{arith}
use Rattle.mail.proofs.Pairs.{number_few}
use Rattle.mail.proofs.Turns.{three_long}
use Rattle.mail.proofs.Messages.{head_parts}
use Rattle.mail.proofs.head_size.Goals as goal

pub overflow_add-result : goal.overflow_add-result
overflow_add-result c =
    omega (arith, number_few c.args.head.kind (omega arith) c.size_of.ensures, number_few c.args.head.purpose (omega arith) c.size_of-2.ensures)

pub overflow_add-result-2 : goal.overflow_add-result-2
overflow_add-result-2 c =
    omega (
      arith,
      number_few c.args.head.kind (omega arith) c.size_of.ensures,
      number_few c.args.head.purpose (omega arith) c.size_of-2.ensures,
      number_few c.args.head.sender.0 (omega arith) c.size_of-3.ensures,
    )

pub returns : goal.returns
returns c =
    record {
      value = omega (arith, three_long (head_parts c.args.head));
      upper_bound = omega (
        arith,
        number_few c.args.head.kind (omega arith) c.size_of.ensures,
        number_few c.args.head.purpose (omega arith) c.size_of-2.ensures,
        number_few c.args.head.sender.0 (omega arith) c.size_of-3.ensures,
      );
    }
