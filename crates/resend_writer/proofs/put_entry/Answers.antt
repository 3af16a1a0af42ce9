-- `put_entry` meets its contract: four numbers in turn.
use mathlib.Core.Path.{refl}
use native.Mathlib.Omega.{arith}
use Rattle.resend_writer.proofs.Entries.{entry_size, entry_put}
use Rattle.resend_writer.proofs.put_entry.Goals as goal

-- there is room for each number, since the entry is as long as all four
pub put_number-second-requires : goal.put_number-second-requires
put_number-second-requires c = let a = c.args in
    omega (arith, entry_size a.i a.first.0 a.last.0 refl refl refl refl refl refl)

pub put_number-third-requires : goal.put_number-third-requires
put_number-third-requires c = let a = c.args in
    omega (arith, entry_size a.i a.first.0 a.last.0 refl refl refl refl refl refl)

pub put_number-fourth-requires : goal.put_number-fourth-requires
put_number-fourth-requires c = let a = c.args in
    omega (arith, entry_size a.i a.first.0 a.last.0 c.from.ensures refl refl refl refl refl)

pub put_number-requires : goal.put_number-requires
put_number-requires c = let a = c.args in
    omega (arith, entry_size a.i a.first.0 a.last.0 c.from.ensures c.from-2.ensures refl refl refl refl)

pub returns : goal.returns
returns c = let both = let a = c.args in
    entry_put a.i a.first.0 a.last.0 a.out.now a.at c.from.ensures c.from-2.ensures (c.put_number-second.ensures.next, c.put_number-second.ensures.bytes)
    (c.put_number-third.ensures.next, c.put_number-third.ensures.bytes) (c.put_number-fourth.ensures.next, c.put_number-fourth.ensures.bytes) (c.put_number.ensures.next, c.put_number.ensures.bytes) in record { value = both.0; out_after = both.1 }
