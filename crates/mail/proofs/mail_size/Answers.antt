use Rattle.mail.specs.Sizes.{message_most}
use Rattle.mail.proofs.Turns.{measured_none, measured_more, measured_all}
use Rattle.mail.proofs.Messages.{mail_parts}
use Rattle.mail.proofs.mail_size.Goals as goal

pub loop-p-init : goal.loop-p-init
loop-p-init c = measured_none (mail_parts c.args.outgoing) message_most

pub loop-p-preserved : goal.loop-p-preserved
loop-p-preserved c = measured_more (mail_parts c.args.outgoing) message_most c.loop-p.invariant c.loop-p-test.true c.size_to-size.ensures.value
    c.size_to-size.ensures.upper_bound

pub returns : goal.returns
returns c = (measured_all (mail_parts c.args.outgoing) message_most c.loop-p.invariant c.loop-p-test.false).0
