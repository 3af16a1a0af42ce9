-- `put_mail` meets its contract. The invariant: the messages to the processes so far are written, and their lengths noted.
use Prim.Native.Nat.{ℕ}
use lib.ListN.{length}
use Rattle.lists.proofs.Filling.{Filled}
use Rattle.mail.specs.Outgoing.{bytes_to, mail_to}
use Rattle.mail.proofs.Turns.{Put}
use Rattle.mail.proofs.put_mail.Given as goal

abbrev pub invariant-loop-p : goal.invariant-loop-p
invariant-loop-p l =
    Put (λ (k : ℕ). mail_to k l.outgoing) l.initial.out 0 l.p l.out l.at × Filled 0 l.initial.lengths 16 (λ k. length (bytes_to l.outgoing k)) l.lengths l.p
