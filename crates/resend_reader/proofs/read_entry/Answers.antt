-- `read_entry` meets its contract.
use mathlib.Core.Path.{sym, subst, ◌∙◌}
use Rattle.resend_reader.specs.Parts.{EntryFound}
use Rattle.resend_reader.proofs.OneEntry.{no_sender, no_receiver, no_first, no_last, entry_found}
use Rattle.resend_reader.proofs.read_entry.Goals as goal

pub returns-in_err-sender : goal.returns-in_err-sender
returns-in_err-sender c = let a = c.args in
    subst (EntryFound a.s.now a.at) (sym c.from_residual.ensures)
    (no_sender a.s.now a.at (sym c.read_number.ensures ∙ c.in_err-sender.was))

pub returns-in_err-receiver : goal.returns-in_err-receiver
returns-in_err-receiver c = let a = c.args in
    subst (EntryFound a.s.now a.at) (sym c.from_residual-in_err-receiver.ensures)
    (no_receiver a.s.now a.at _ _ (sym c.read_number.ensures ∙ c.in_ok-sender.was) (sym c.read_number-2.ensures ∙ c.in_err-receiver.was))

pub returns-in_err-first : goal.returns-in_err-first
returns-in_err-first c = let a = c.args in
    subst (EntryFound a.s.now a.at) (sym c.from_residual-in_err-first.ensures)
    (no_first a.s.now a.at _ _ (sym c.read_number.ensures ∙ c.in_ok-sender.was) _ _ (sym c.read_number-2.ensures ∙ c.in_ok-receiver.was)
    (sym c.read_number-3.ensures ∙ c.in_err-first.was))

pub returns-in_err-last : goal.returns-in_err-last
returns-in_err-last c = let a = c.args in
    subst (EntryFound a.s.now a.at) (sym c.from_residual-in_err-last.ensures)
    (no_last a.s.now a.at _ _ (sym c.read_number.ensures ∙ c.in_ok-sender.was) _ _ (sym c.read_number-2.ensures ∙ c.in_ok-receiver.was)
    _ _ (sym c.read_number-3.ensures ∙ c.in_ok-first.was) (sym c.read_number-4.ensures ∙ c.in_err-last.was))

pub returns : goal.returns
returns c = let a = c.args in
    entry_found a.s.now a.at _ _ (sym c.read_number.ensures ∙ c.in_ok-sender.was) _ _ (sym c.read_number-2.ensures ∙ c.in_ok-receiver.was)
    _ _ (sym c.read_number-3.ensures ∙ c.in_ok-first.was) _ _ (sym c.read_number-4.ensures ∙ c.in_ok-last.was)
