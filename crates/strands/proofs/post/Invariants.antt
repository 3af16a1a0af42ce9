-- `post` meets its contract. The invariant: the messages so far are put, and the lengths noted.
use Rattle.strands.proofs.Posting.{Posted}
use Rattle.strands.proofs.post.Given as goal

abbrev pub invariant-loop-k : goal.invariant-loop-k
invariant-loop-k l =
    Posted l.n l.initiator l.outgoing l.lengths l.initial.strands l.initial.next l.k l.strands l.next
