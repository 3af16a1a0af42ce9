-- `send` meets its contract: question 17, and then the messages.
use Rattle.mail.proofs.Messages.{no_room, sent}
use Rattle.mail.proofs.send.Goals as goal

pub returns-then-out-size : goal.returns-then-out-size
returns-then-out-size c =
    let all = no_room c.args.outgoing c.args.out.now c.mail_size-size.ensures c.if-out-size.true in
    record { answer = all.0; out_after = all.1 }

pub returns : goal.returns
returns c =
    let put = c.put_mail-lengths.ensures in
    let all = sent c.args.outgoing c.args.out.now c.mail_size-size.ensures c.if-out-size.false (put.value, put.out_after) in
    record { answer = all.0; out_after = all.1 }
