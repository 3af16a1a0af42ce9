-- `take_event` meets its contract: each kind by its own function.
use Rattle.journal_reader.proofs.Taken.{handed, sending_refused, sending_taken, receipt_refused, receipt_taken, checkpoint_refused, checkpoint_taken}
use Rattle.journal_reader.proofs.asking.take_event.Goals as goal

pub returns-in_err-take_sending-in-Sent : goal.returns-in_err-take_sending-in-Sent
returns-in_err-take_sending-in-Sent c =
    sending_refused _ _ _ _ c.requires.0 c.requires.1 _ _ _ c.in-Sent.is _ _ c.take_sending.ensures c.in_err-take_sending-in-Sent.field-0.0
    c.in_err-take_sending-in-Sent.was _ (handed _ c.in_err-take_sending-in-Sent.field-0.0 c.from_residual.ensures.1 (λ f same. same))

pub returns-in_ok-take_sending-in-Sent : goal.returns-in_ok-take_sending-in-Sent
returns-in_ok-take_sending-in-Sent c =
    sending_taken _ _ _ _ c.requires.0 c.requires.1 _ _ _ c.in-Sent.is _ _ c.take_sending.ensures c.in_ok-take_sending-in-Sent.was

pub returns-in_err-take_receipt-in-Received : goal.returns-in_err-take_receipt-in-Received
returns-in_err-take_receipt-in-Received c =
    receipt_refused _ _ _ _ c.requires.0 c.requires.1 _ _ _ c.in-Received.is _ _ c.take_receipt.ensures c.in_err-take_receipt-in-Received.field-0.0
    c.in_err-take_receipt-in-Received.was _ (handed _ c.in_err-take_receipt-in-Received.field-0.0 c.from_residual-in_err-take_receipt-in-Received.ensures.1 (λ f same. same))

pub returns-in_ok-take_receipt-in-Received : goal.returns-in_ok-take_receipt-in-Received
returns-in_ok-take_receipt-in-Received c =
    receipt_taken _ _ _ _ c.requires.0 c.requires.1 _ _ _ c.in-Received.is _ _ c.take_receipt.ensures c.in_ok-take_receipt-in-Received.was

pub returns-in_err-take_checkpoint-in-Checkpointed : goal.returns-in_err-take_checkpoint-in-Checkpointed
returns-in_err-take_checkpoint-in-Checkpointed c =
    checkpoint_refused _ _ _ _ c.requires.0 c.requires.1 _ _ c.in-Checkpointed.is _ _ c.take_checkpoint.ensures c.in_err-take_checkpoint-in-Checkpointed.field-0.0
    c.in_err-take_checkpoint-in-Checkpointed.was _ (handed _ c.in_err-take_checkpoint-in-Checkpointed.field-0.0 c.from_residual-in_err-take_checkpoint-in-Checkpointed.ensures.1 (λ f same. same))

pub returns-in_ok-take_checkpoint-in-Checkpointed : goal.returns-in_ok-take_checkpoint-in-Checkpointed
returns-in_ok-take_checkpoint-in-Checkpointed c =
    checkpoint_taken _ _ _ _ c.requires.0 c.requires.1 _ _ c.in-Checkpointed.is _ _ c.take_checkpoint.ensures c.in_ok-take_checkpoint-in-Checkpointed.was
