-- `put_to` meets its contract: a message, or nothing.
use mathlib.Core.Path.{sym, ap, ◌∙◌}
use native.Mathlib.Omega.{arith}
use lib.ListN.{length}
use lib.Seq.{sets}
use Rattle.mail.proofs.Messages.{bytes_of, bytes_none}
use Rattle.mail.proofs.put_to.Goals as goal

pub put_message-requires : goal.put_message-requires
put_message-requires c = let bytes = bytes_of c.args.outgoing c.args.p c.if-to-p.true c.message_to.ensures in
    omega (arith, c.requires.1, ap length bytes)

pub returns-then-to-p : goal.returns-then-to-p
returns-then-to-p c = let bytes = bytes_of c.args.outgoing c.args.p c.if-to-p.true c.message_to.ensures in
    record { value = c.put_message.ensures.value ∙ ap length bytes; out_after = c.put_message.ensures.out_after ∙ ap (sets c.args.out.now 0) bytes }

pub returns : goal.returns
returns c = let nothing = sym (bytes_none c.args.outgoing c.args.p c.if-to-p.false) in
    record { value = ap length nothing; out_after = ap (sets c.args.out.now 0) nothing }
