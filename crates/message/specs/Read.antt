-- The message that bytes hold.
use Rattle.std.specs.Prelude.{List, ℕ}
use Rattle.lists.specs.Pick.{pick}
use Rattle.matrix.specs.Matrix.{as_row}
use Rattle.message.specs.declared.Message.{Message}
use Rattle.message.specs.Formed.{message_of, numbers_in, message_formed}

-- beside a message that is not formed: all zero
unfoldable pub no_message : Message
no_message =
    record { head = record { kind = 0; purpose = 0; sender = record { 0 = 0 } }; news = as_row (λ p. 0) }

unfoldable pub message_read : ℕ → ℕ → ℕ → List ℕ → Message
message_read n me initiator s = pick (message_formed n me initiator s) (message_of (numbers_in s).found) no_message
