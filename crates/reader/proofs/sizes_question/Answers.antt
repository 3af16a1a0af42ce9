-- `reader::sizes_question` meets its contract: at each return the tests that led there say which question fails.
use mathlib.Core.Path.{refl}
use borrow.Author.Tests.{le-leb, lt-leb, eq-eqb, ne_eqb}
use Rattle.book.specs.declared.Question.TheVariants.{BookBytes, TableEntries}
use Rattle.book.proofs.Refusals.{refuses, accepts}
use Rattle.reader.proofs.sizes_question.Goals as goal

pub returns-then-bytes-gt-MOST_BYTES : goal.returns-then-bytes-gt-MOST_BYTES
returns-then-bytes-gt-MOST_BYTES c = refuses BookBytes tt (rw (lt-leb _ 65536 c.if-bytes-gt-MOST_BYTES.true) refl)

pub returns-then-sent-ne-ENTRIES : goal.returns-then-sent-ne-ENTRIES
returns-then-sent-ne-ENTRIES c =
    refuses TableEntries tt (rw (le-leb _ 65536 c.if-bytes-gt-MOST_BYTES.false, ne_eqb _ 4096 c.if-sent-ne-ENTRIES.true) refl)

pub returns-then-received-ne-ENTRIES : goal.returns-then-received-ne-ENTRIES
returns-then-received-ne-ENTRIES c =
    refuses TableEntries tt
    (rw (le-leb _ 65536 c.if-bytes-gt-MOST_BYTES.false, eq-eqb _ 4096 c.if-sent-ne-ENTRIES.false, ne_eqb _ 4096 c.if-received-ne-ENTRIES.true) refl)

pub returns : goal.returns
returns c =
    accepts
    (rw (le-leb _ 65536 c.if-bytes-gt-MOST_BYTES.false, eq-eqb _ 4096 c.if-sent-ne-ENTRIES.false, eq-eqb _ 4096 c.if-received-ne-ENTRIES.false) refl)
    refl
