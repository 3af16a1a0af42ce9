-- `mail_size` meets its contract. The invariant: the messages to the processes so far are measured.
use Prim.Native.Nat.{ℕ}
use Rattle.mail.specs.Outgoing.{mail_to}
use Rattle.mail.specs.Sizes.{message_most}
use Rattle.mail.proofs.Turns.{Measured}
use Rattle.mail.proofs.mail_size.Given as goal

abbrev pub invariant-loop-p : goal.invariant-loop-p
invariant-loop-p l = Measured message_most (λ (k : ℕ). mail_to k l.outgoing) l.p l.size
