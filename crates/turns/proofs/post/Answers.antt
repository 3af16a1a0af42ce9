-- `post` meets its contract.
use Rattle.turns.proofs.Answers.{posted_is}
use Rattle.turns.proofs.post.Goals as goal

pub returns : goal.returns
returns c = let a = c.args in
    let sent = c.post-lengths in
    record { value = posted_is a.turned sent.result c.post-lengths.ensures.value; strands_after = c.post-lengths.ensures.strands_after }
