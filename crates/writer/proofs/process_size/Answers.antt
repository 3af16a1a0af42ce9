-- `writer::process_size` meets its contract: the count, then the checkpoints.
use Prim.Native.Nat.{◌≤◌}
use native.Mathlib.Omega.{arith}
use Rattle.varint.proofs.Encode.{encode_size}
use Rattle.writer.proofs.Parts.{count_first}
use Rattle.writer.proofs.Turns.{long}
use Rattle.writer.proofs.process_size.Goals as goal

-- a count takes at most two bytes
pub overflow_add-result : goal.overflow_add-result
overflow_add-result c =
    let small : c.size_of.result ≤ 2 = rw c.size_of.ensures (encode_size 2 c.args.count (omega arith) (omega arith)) in
    omega (arith, small)

pub returns : goal.returns
returns c =
    let small : c.size_of.result ≤ 2 = rw c.size_of.ensures (encode_size 2 c.args.count (omega arith) (omega arith)) in
    record {
      value = omega (arith, long (count_first c.requires.rows_fit c.requires.rows_fit_2));
      upper_bound = omega (arith, small);
    }
