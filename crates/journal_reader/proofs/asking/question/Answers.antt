-- `question` meets its contract: questions 1 and 2, then those along the journal.
use Rattle.book.specs.declared.Question.TheVariants.{BookBytes, TableEntries}
use Rattle.book.proofs.Refusals.{refuses}
use Rattle.journal_reader.proofs.Journals.{bytes_refused, sent_refused, received_refused, journal_answered}
use Rattle.journal_reader.proofs.asking.question.Goals as goal

pub returns-then-bytes-gt-MOST_BYTES : goal.returns-then-bytes-gt-MOST_BYTES
returns-then-bytes-gt-MOST_BYTES c = let a = c.args in
    refuses BookBytes _ (bytes_refused a.bytes.now a.sent.now a.received.now c.if-bytes-gt-MOST_BYTES.true)

pub returns-then-sent-ne-ENTRIES : goal.returns-then-sent-ne-ENTRIES
returns-then-sent-ne-ENTRIES c = let a = c.args in
    refuses TableEntries _
    (sent_refused a.bytes.now a.sent.now a.received.now c.if-bytes-gt-MOST_BYTES.false c.if-sent-ne-ENTRIES.true)

pub returns-then-received-ne-ENTRIES : goal.returns-then-received-ne-ENTRIES
returns-then-received-ne-ENTRIES c = let a = c.args in
    refuses TableEntries _
    (received_refused a.bytes.now a.sent.now a.received.now c.if-bytes-gt-MOST_BYTES.false c.if-received-ne-ENTRIES.true)

pub returns : goal.returns
returns c = let a = c.args in
    journal_answered a.bytes.now a.sent.now a.received.now c.if-bytes-gt-MOST_BYTES.false c.if-sent-ne-ENTRIES.false
    c.if-received-ne-ENTRIES.false _ c.take_journal.ensures
