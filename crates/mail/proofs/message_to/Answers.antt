-- `message_to` meets its contract: the row of process p, which counts from 1 there.
use mathlib.Core.Path.{ap, ◌∙◌}
use mathlib.Core.List.{List}
use Rattle.book.specs.declared.Count.{Count}
use Rattle.consistency.proofs.Permits.{from_one}
use Rattle.matrix.specs.Matrix.{row}
use Rattle.message.specs.declared.Message.{Message}
use Rattle.mail.proofs.message_to.Goals as goal

pub returns : goal.returns
returns c = let a = c.args in
    let o = a.outgoing in
    let news = c.row-news.ensures ∙ ap (row o.news) (from_one a.p) in
    ap {B = Message} (λ (l : List Count). record { head = o.head; news = l }) news
