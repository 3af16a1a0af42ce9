-- `report_of` meets its contract.
use Rattle.participant.proofs.Steps.{report_is}
use Rattle.participant.proofs.Participant.report_of.Goals as goal

pub returns : goal.returns
returns c = let a = c.args in
    let news = c.diff-news in
    report_is a.self a.after news.result c.only_to-outgoing.result news.ensures c.only_to-outgoing.ensures
