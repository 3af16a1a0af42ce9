-- `strand_start` meets its contract.
use native.Mathlib.Omega.{arith}
use Prim.Native.Nat.{◌-◌}
use Rattle.strands.proofs.Slots.{start_few, start_after, start_before}
use Rattle.strands.proofs.strand_start.Goals as goal

pub overflow_mul-result : goal.overflow_mul-result
overflow_mul-result c = let size = c.slot_size-size in
    omega (arith, start_few (c.args.k - 1) size.result (omega arith) size.ensures.upper_bound)

pub returns-then-initiator-k : goal.returns-then-initiator-k
returns-then-initiator-k c = let a = c.args in
    let size = c.slot_size-size in
    record {
      value = start_after a.n a.initiator a.k size.ensures.value c.if-initiator-k.true;
      upper_bound = start_few (a.k - 1) size.result (omega arith) size.ensures.upper_bound;
    }

pub overflow_mul-result-2 : goal.overflow_mul-result-2
overflow_mul-result-2 c = let size = c.slot_size-size in
    omega (arith, start_few c.args.k size.result (omega arith) size.ensures.upper_bound)

pub returns : goal.returns
returns c = let a = c.args in
    let size = c.slot_size-size in
    record {
      value = start_before a.n a.initiator a.k size.ensures.value c.if-initiator-k.false;
      upper_bound = start_few a.k size.result (omega arith) size.ensures.upper_bound;
    }
