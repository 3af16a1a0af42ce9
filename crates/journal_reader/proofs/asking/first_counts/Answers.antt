-- `first_counts` meets its contract.
use Rattle.book.specs.Bounds.{most_processes}
use Rattle.journal_reader.proofs.Padded.{padded_filled}
use Rattle.journal_reader.proofs.asking.first_counts.Goals as goal

pub returns : goal.returns
returns c = padded_filled most_processes _ 1 _ c.requires (c.fill.ensures.after (λ y same. same))
