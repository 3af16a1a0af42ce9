-- `participant_at` meets its contract.
use Rattle.words.specs.Participant.{participant_from}
use Rattle.state_words.proofs.participant_at.Goals as goal

pub returns : goal.returns
unfolding participant_from
returns c = rw (c.stage_in.ensures, c.counts_at-column.ensures, c.counts_at-row.ensures)
