-- `read_pairs` meets its contract.
use mathlib.Core.Path.{sym, ◌∙◌}
use Rattle.message.proofs.PairLoop.{no_count, count_first}
use Rattle.message.specs.Parts.{end_number}
use Rattle.message.proofs.read_pairs.Goals as goal

pub returns-in_err-count : goal.returns-in_err-count
returns-in_err-count c = let a = c.args in
    c.from_residual.ensures ∙ no_count a.n (end_number a.end) a.s.now a.at (sym c.read_number.ensures ∙ c.in_err-count.was)

pub returns : goal.returns
returns c = let a = c.args in
    count_first a.n (end_number a.end) a.s.now a.at _ _ (sym c.read_number.ensures ∙ c.in_ok-count.was) c.read_counted.ensures
