-- `recovery_line_read_resend` meets its contract.
use mathlib.Core.Path.{refl, sym}
use Rattle.book.proofs.Refusals.{is_accepted, value_is}
use Rattle.recovery_line.proofs.Shells.{question_is}
use Rattle.recovery_line.proofs.ResendCalls.{read_wrong, read_refused, read_taken}
use Rattle.recovery_line.proofs.resends.recovery_line_read_resend.Goals as goal

pub returns-then-resend-ne-RESEND_WORDS : goal.returns-then-resend-ne-RESEND_WORDS
returns-then-resend-ne-RESEND_WORDS c = let a = c.args in
    let whole = read_wrong a.n a.bytes.now a.resend.now c.if-resend-ne-RESEND_WORDS.true in
    record { value = whole.0; resend_after = whole.1 }

pub returns-in-Err : goal.returns-in-Err
returns-in-Err c = let a = c.args in
    let (same, some) = question_is _ _ c.read.ensures c.in-Err.is c.number-in-Err.ensures in
    let whole = read_refused a.n a.bytes.now a.resend.now
    c.if-resend-ne-RESEND_WORDS.false c.number.ensures same some in
    record { value = whole.0; resend_after = whole.1 }

pub returns-in-Ok : goal.returns-in-Ok
returns-in-Ok c = let a = c.args in
    let whole = read_taken a.n a.bytes.now a.resend.now
    c.if-resend-ne-RESEND_WORDS.false c.number.ensures
    (sym (is_accepted _ _ c.read.ensures c.in-Ok.is))
    refl (value_is _ _ c.read.ensures c.in-Ok.is) c.put_resend.ensures in
    record { value = whole.0; resend_after = whole.1 }
