-- `read` meets its contract.
use mathlib.Core.Path.{sym, ◌∙◌}
use Rattle.book.specs.declared.Question.TheVariants.{Processes, Number}
use Rattle.book.proofs.Refusals.{refuses}
use Rattle.resend_reader.proofs.WholeList.{no_process, many_processes, no_count, whole_found}
use Rattle.resend_reader.proofs.read.Goals as goal

pub returns-then-n-lt1 : goal.returns-then-n-lt1
returns-then-n-lt1 c = let a = c.args in refuses Processes _ (no_process a.n a.bytes.now c.if-n-lt1.true)

pub returns-then-n-gt-MOST_PROCESSES : goal.returns-then-n-gt-MOST_PROCESSES
returns-then-n-gt-MOST_PROCESSES c = let a = c.args in refuses Processes _ (many_processes a.n a.bytes.now c.if-n-gt-MOST_PROCESSES.true)

pub returns-in_default : goal.returns-in_default
returns-in_default c = let a = c.args in
    refuses Number _
    (no_count a.n a.bytes.now c.if-n-lt1.false c.if-n-gt-MOST_PROCESSES.false (sym c.read_number.ensures ∙ c.in_default.is))

pub returns : goal.returns
returns c = let a = c.args in
    whole_found a.n a.bytes.now c.if-n-lt1.false c.if-n-gt-MOST_PROCESSES.false _ _ (sym c.in-Some.ensures) c.read_entries.ensures
