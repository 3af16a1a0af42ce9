-- `are_named` meets its contract.
use mathlib.Core.Path.{sym, ◌∙◌}
use Rattle.book.specs.Names.{is_named}
use Rattle.lists.proofs.Tests.{and_first, and_rest}
use Rattle.journal_reader.proofs.asking.are_named.Goals as goal

pub returns-then-is_named : goal.returns-then-is_named
returns-then-is_named c =
    let a = c.args in
    c.is_named-then-is_named.ensures
    ∙ sym (and_rest (is_named a.n a.process.0) (is_named a.n a.partner.0) (sym c.is_named.ensures ∙ c.if-is_named.true))

pub returns-else-is_named : goal.returns-else-is_named
returns-else-is_named c =
    let a = c.args in
    c.if-is_named.false
    ∙ sym (and_first (is_named a.n a.process.0) (is_named a.n a.partner.0) (sym c.is_named.ensures ∙ c.if-is_named.false))
