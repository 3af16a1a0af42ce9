-- The questions put to an entry.
use mathlib.Core.Path.{◌≡◌}
use mathlib.Core.Bool.{true, false, ◌&&◌}
use Prim.Native.Nat.{ℕ, ◌≤◌}
use Rattle.lists.proofs.Tests.{and_both, both_and, and_first, and_second}
use Rattle.book.specs.Names.{is_named}
use Rattle.book.specs.InTurn.{ask}
use Rattle.book.proofs.Names.{named_in}
use Rattle.book.proofs.Questions.{then_none, asked_yes}
use Rattle.resend.specs.Questions.{entry_formed, entry_question}

module _ (n s r sender receiver first last : ℕ) where
  pub sender_not_named : is_named n sender ≡ false → entry_question n s r sender receiver first last ≡ 10
  unfolding entry_question
  sender_not_named e = rw (and_first (is_named n sender) (is_named n receiver) e)

  pub receiver_not_named : is_named n receiver ≡ false → entry_question n s r sender receiver first last ≡ 10
  unfolding entry_question
  receiver_not_named e = rw (and_second (is_named n sender) (is_named n receiver) e)

  module _ (from : is_named n sender ≡ true) (to : is_named n receiver ≡ true) where
    pub not_formed : entry_formed s r sender receiver first last ≡ false → entry_question n s r sender receiver first last ≡ 21
    unfolding entry_question
    not_formed e = rw (both_and (is_named n sender) (is_named n receiver) from to, e)

    pub entry_passes : entry_formed s r sender receiver first last ≡ true → entry_question n s r sender receiver first last ≡ 0
    unfolding entry_question
    entry_passes e = rw (both_and (is_named n sender) (is_named n receiver) from to, e)

  -- an entry that passes names two processes
  pub entry_names : entry_question n s r sender receiver first last ≡ 0
      → (1 ≤ sender) × (sender ≤ n) × (1 ≤ receiver) × (receiver ≤ n)
  unfolding entry_question
  entry_names e =
      let named = and_both (is_named n sender) (is_named n receiver) (asked_yes 9 _ (then_none (ask 10 (is_named n sender && is_named n receiver)) _ e).0) in
      let from = named_in n sender named.0 in
      let to = named_in n receiver named.1 in
      (from.0, from.1, to.0, to.1)
