-- Document 02, E5, on K's example 1 and on a book of two processes: what is sent again, and lists that the reader takes or refuses.
use Rattle.std.specs.Prelude.{◌≡◌, List, [], ◌∷◌, ℕ}
use Rattle.resend.specs.Questions.{list_question}
use Rattle.resend.specs.Calls.{bytes_to_resend}
use Rattle.session_examples.specs.Books.{k1}
use Rattle.examples.specs.InFlight.{tables_in, half_received}

-- a list's bytes, lent with n, are refused by this question; 0 for none
abbrev pub Answered : ℕ → List ℕ → ℕ → Type 0
Answered n bytes question = list_question n bytes ≡ question

pub record SentAgain : Type 0 where
  -- K's example 1, whose line is 1 2 2: process 2 sends process 1 its messages 1 to 3 again, and process 3 its messages 1 to 7
  pub k_line :
      bytes_to_resend (tables_in k1) 3 ≡ 0x02 ∷ 0x02 ∷ 0x01 ∷ 0x01 ∷ 0x03 ∷ 0x03 ∷ 0x01 ∷ 0x01 ∷ 0x07 ∷ []
  -- with purpose 2, nothing
  pub k_oldest : bytes_to_resend (tables_in k1) 2 ≡ 0x00 ∷ []
  -- of two messages one was received: the second is sent again; after the move it is counted from 1
  pub half : bytes_to_resend half_received.before 1 ≡ 0x01 ∷ 0x02 ∷ 0x01 ∷ 0x02 ∷ 0x02 ∷ []
  pub moved : bytes_to_resend half_received.after 2 ≡ 0x01 ∷ 0x02 ∷ 0x01 ∷ 0x01 ∷ 0x01 ∷ []
  -- the largest number passes as a message's; the mark is not asked
  pub largest :
      Answered 2 (0x01 ∷ 0x01 ∷ 0x02 ∷ 0xFF ∷ 0xFF ∷ 0xFF ∷ 0xFF ∷ 0x0F ∷ 0xFF ∷ 0xFF ∷ 0xFF ∷ 0xFF ∷ 0x0F ∷ []) 0
  -- (3, 3) is no channel: 10 where there are two processes, 21 where there are three
  pub no_process : Answered 2 (0x01 ∷ 0x03 ∷ 0x03 ∷ 0x01 ∷ 0x01 ∷ []) 10
  pub no_channel : Answered 3 (0x01 ∷ 0x03 ∷ 0x03 ∷ 0x01 ∷ 0x01 ∷ []) 21
  -- a number that is missing comes before a process that there is not
  pub missing : Answered 2 (0x01 ∷ 0x03 ∷ 0x03 ∷ 0x01 ∷ []) 3
  -- the same channel twice
  pub twice : Answered 2 (0x02 ∷ 0x01 ∷ 0x02 ∷ 0x01 ∷ 0x01 ∷ 0x01 ∷ 0x02 ∷ 0x02 ∷ 0x02 ∷ []) 21
  -- a byte left over
  pub left_over : Answered 2 (0x00 ∷ 0x00 ∷ []) 21
