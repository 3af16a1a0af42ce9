-- `varint::write_number` meets its contract: where there is room, by that of `put_number`.
-- Assumes nothing.
use native.Mathlib.Omega.{arith}
use mathlib.Core.Path.{sym, ap, ◌∙◌}
use Rattle.std.specs.Prelude.{Some}
use Rattle.varint.proofs.WriteTurns.{place_room, place_full, bytes_room, bytes_full}
use Rattle.varint.proofs.write_number.Goals as goal

pub returns-then-out-at : goal.returns-then-out-at
returns-then-out-at c = record { answer = sym (place_full _ _ _ (omega arith)); bytes = sym (bytes_full _ _ _ (omega arith)) }

pub returns-then-out-at-2 : goal.returns-then-out-at-2
returns-then-out-at-2 c = record { answer = sym (place_full _ _ _ (omega arith)); bytes = sym (bytes_full _ _ _ (omega arith)) }

pub returns : goal.returns
returns c = record { answer = ap Some c.put_number-next.ensures.next ∙ sym (place_room _ _ _ (omega arith)); bytes = c.put_number-next.ensures.bytes ∙ sym (bytes_room _ _ _ (omega arith)) }
