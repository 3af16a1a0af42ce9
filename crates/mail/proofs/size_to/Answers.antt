-- `size_to` meets its contract: a message, or nothing.
use mathlib.Core.Path.{sym, ap, ◌∙◌}
use native.Mathlib.Omega.{arith}
use lib.ListN.{length}
use Rattle.mail.proofs.Messages.{bytes_of, bytes_none}
use Rattle.mail.proofs.size_to.Goals as goal

pub returns-then-to-p : goal.returns-then-to-p
returns-then-to-p c = let a = c.args in
    let bytes = bytes_of a.outgoing a.p c.if-to-p.true c.message_to.ensures in
    record { value = c.message_size.ensures.value ∙ ap length bytes; upper_bound = c.message_size.ensures.upper_bound }

pub returns : goal.returns
returns c = let a = c.args in
    record { value = sym (ap length (bytes_none a.outgoing a.p c.if-to-p.false)); upper_bound = omega arith }
