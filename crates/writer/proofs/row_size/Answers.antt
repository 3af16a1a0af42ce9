use mathlib.Core.Path.{refl}
use Prim.Native.Nat.{◌≤◌}
use native.Mathlib.Omega.{arith}
use Rattle.varint.proofs.Encode.{encode_size}
use Rattle.writer.proofs.Parts.{row_more, row_done}
use Rattle.writer.proofs.Turns.{counted_begun, counted_more, counted_ended}
use Rattle.writer.proofs.row_size.Goals as goal

pub loop-k-init : goal.loop-k-init
loop-k-init c = (omega arith, omega arith, counted_begun refl)

-- a counter takes at most ten bytes
pub overflow_add-size : goal.overflow_add-size
overflow_add-size c =
    let small : c.size_of-size.result ≤ 10 =
    rw c.size_of-size.ensures (encode_size 10 c.nth_counter.result (omega arith) (omega (arith, c.nth_counter.type_inv))) in
    omega (arith, small)

pub loop-k-preserved : goal.loop-k-preserved
loop-k-preserved c =
    let small : c.size_of-size.result ≤ 10 =
    rw c.size_of-size.ensures (encode_size 10 c.nth_counter.result (omega arith) (omega (arith, c.nth_counter.type_inv))) in
    let next = row_more c.requires c.loop-k-test.true c.nth_counter.ensures in
    (omega arith, omega (arith, small), counted_more next c.size_of-size.ensures c.loop-k.invariant.2)

pub returns : goal.returns
returns c = record { value = counted_ended (row_done c.requires c.loop-k-test.false) c.loop-k.invariant.2; upper_bound = omega arith }
