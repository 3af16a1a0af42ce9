-- `put_pair` meets its contract.
use Rattle.recovery_line.proofs.LineCalls.{pair_put}
use Rattle.recovery_line.proofs.lines.put_pair.Goals as goal

pub returns : goal.returns
returns c = let a = c.args in
    pair_put a.pair.now c.requires c.of_number.ensures c.of_number-2.ensures
