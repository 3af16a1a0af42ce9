-- A formed message as data, in the words of document 01, "Message (own)" and question 14.
use Rattle.std.specs.Prelude.{◌≡◌, true, ℕ, suc, ◌≤◌, ◌<◌, length}
use Rattle.book.specs.Bounds.{mark, most_processes}
use Rattle.consistency.specs.Known.{counters}
use Rattle.message.specs.declared.Message.{Message}
use Rattle.message.specs.Formed.{head_formed, invitation_formed}

-- `end` is the participant at whose end of the strand the message is read or written
pub record IsFormed (n end : ℕ) (m : Message) : Type 0 where
  pub long : length m.news ≡ most_processes
  -- kind 1 or 2, purposes 1 to 3, a sender from 1 to n, purpose 2 only in an invitation
  pub head : head_formed n m.head.kind m.head.purpose m.head.sender.0 ≡ true
  -- a counter, or the mark where no pair names the process
  pub most : (p : ℕ) → p < most_processes → counters m.news p ≤ mark
  -- pairs name processes 1 to n, and not that participant
  pub named : (p : ℕ) → p < most_processes → counters m.news p < mark → (p < n) × (suc p ≡ end → ⊥)
  -- an invitation has just the pair of its sender, and one of purpose 2 none
  pub invitation : invitation_formed m ≡ true
