-- `read_for` meets its contract.
use mathlib.Core.Path.{◌≡◌, sym, ap, ◌∙◌}
use mathlib.Core.Bool.{Bool, false}
use Rattle.lists.specs.Pick.{pick}
use Rattle.message.specs.Formed.{message_formed, message_of, numbers_in}
use Rattle.message.specs.Read.{message_read, no_message}
use Rattle.message.proofs.Found.{found_none, found_some}
use Rattle.session_steps.proofs.read_for.Goals as goal

pub returns-in-Some : goal.returns-in-Some
returns-in-Some c = (found_some _ _ c.read_message.ensures c.in-Some.is).1

pub returns-in-None : goal.returns-in-None
unfolding message_read
returns-in-None c =
    let a = c.args in
    let formless : message_formed a.n a.p.me.0 a.p.initiator.0 a.s.now ≡ false = found_none _ _ c.read_message.ensures c.in-None.is in
    c.no_message.ensures ∙ sym (ap (λ (b : Bool). pick b (message_of (numbers_in a.s.now).found) no_message) formless)
