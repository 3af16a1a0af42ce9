-- `tables::length_question` meets its contract.
use mathlib.Core.Path.{refl}
use borrow.Author.Tests.{eq-eqb, ne_eqb}
use Rattle.book.specs.declared.Question.TheVariants.{TableEntries}
use Rattle.book.proofs.Refusals.{refuses, accepts}
use Rattle.tables.proofs.length_question.Goals as goal

pub returns-then-sent-ne-ENTRIES : goal.returns-then-sent-ne-ENTRIES
returns-then-sent-ne-ENTRIES c = refuses TableEntries tt (rw (ne_eqb _ 4096 c.if-sent-ne-ENTRIES.true) refl)

pub returns-then-received-ne-ENTRIES : goal.returns-then-received-ne-ENTRIES
returns-then-received-ne-ENTRIES c =
    refuses TableEntries tt (rw (eq-eqb _ 4096 c.if-sent-ne-ENTRIES.false, ne_eqb _ 4096 c.if-received-ne-ENTRIES.true) refl)

pub returns : goal.returns
returns c = accepts (rw (eq-eqb _ 4096 c.if-sent-ne-ENTRIES.false, eq-eqb _ 4096 c.if-received-ne-ENTRIES.false) refl) refl
