-- `book::clear` meets its contract.
use Rattle.book.proofs.Stores.{cleared}
use Rattle.book.proofs.clear.Goals as goal

pub returns : goal.returns
returns c = cleared _ _ _ _ c.requires.0 c.requires.1 (c.fill.ensures.after (λ y same. same))
