-- `take_journal` meets its contract: questions 3 and 4 of the leading n, then those of the events.
use mathlib.Core.Path.{sym}
use Rattle.varint.proofs.Reading.{read_next}
use Rattle.book.specs.declared.Question.TheVariants.{Number, Processes}
use Rattle.book.proofs.Refusals.{refuses}
use Rattle.book.proofs.Counts.{size_none, size_many, size_given_lem}
use Rattle.journal.specs.Bounds.{journal_groups, journal_largest}
use Rattle.journal_reader.proofs.Journals.{journal_unread, journal_size, journal_taken}
use Rattle.journal_reader.proofs.asking.take_journal.Goals as goal

pub returns-in_default : goal.returns-in_default
returns-in_default c =
    let a = c.args in
    refuses Number _ (journal_unread a.s.now (sym c.in_default.ensures))

pub returns-then-n-lt1 : goal.returns-then-n-lt1
returns-then-n-lt1 c =
    let a = c.args in
    refuses Processes _ (journal_size a.s.now _ _ (sym c.in-Some.ensures) (size_none _ c.if-n-lt1.true))

pub returns-then-n : goal.returns-then-n
returns-then-n c =
    let a = c.args in
    refuses Processes _ (journal_size a.s.now _ _ (sym c.in-Some.ensures) (size_many _ c.if-n-lt1.false c.if-n.true))

pub take_events-requires : goal.take_events-requires
take_events-requires c = let next = read_next journal_groups journal_largest c.args.s.now 0 _ _ (sym c.in-Some.ensures) in
    (c.if-n.false, (next.1, c.requires))

pub returns : goal.returns
returns c =
    let a = c.args in
    journal_taken a.s.now _ _ (sym c.in-Some.ensures)
    (size_given_lem _ c.if-n-lt1.false c.if-n.false) _ c.take_events.ensures
