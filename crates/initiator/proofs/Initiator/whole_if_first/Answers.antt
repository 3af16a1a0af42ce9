-- `whole_if_first` meets its contract.
use mathlib.Core.Path.{◌≡◌, ap, sym, ◌∙◌}
use mathlib.Core.Bool.{not}
use borrow.Author.Rules.{rules}
use Rattle.matrix.specs.Matrix.{row, not_known_row}
use Rattle.matrix.specs.Entries.{same}
use Rattle.matrix.proofs.Equal.{rows_differ}
use Rattle.initiator.specs.Step.{sender_of}
use Rattle.initiator.proofs.Initiator.whole_if_first.Goals as goal
use Rattle.initiator.proofs.Initiator.whole_if_first.Goals.{After-ne}

-- is nothing known of the sender?
unknown-told : (c : After-ne) → let a = c.args in
    same (row a.self.matrix (sender_of a.message)) (not_known_row a.self.n (sender_of a.message)) ≡ not c.ne.result
unknown-told c = sym (rows_differ c.row-row.result c.not_known_row-unknown.result c.ne.result (search rules) (search rules) c.ne.ensures ∙ (λ i. same (c.row-row.ensures i) (c.not_known_row-unknown.ensures i)))

pub returns-then-ne : goal.returns-then-ne
returns-then-ne c = rw (unknown-told (goal.at.returns-then-ne c).After-ne ∙ ap not c.if-ne.true)

pub returns : goal.returns
returns c = rw (unknown-told (goal.at.returns c).After-ne ∙ ap not c.if-ne.false, c.pair_count.ensures.value)
