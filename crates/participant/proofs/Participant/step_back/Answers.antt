-- `step_back` meets its contract.
use Prim.Native.Nat.{◌-◌}
use borrow.Author.Rules.{rules}
use Rattle.accepted.specs.Holding.{tables_in}
use Rattle.consistency.proofs.Calls.{sent_whole, received_whole, received_rise}
use Rattle.machine.specs.Own.{own_of}
use Rattle.machine.proofs.Calls.{newest_there}
use Rattle.participant.proofs.Steps.{back_is}
use Rattle.participant.proofs.Participant.step_back.Goals as goal

pub newest_near-candidate-requires : goal.newest_near-candidate-requires
newest_near-candidate-requires c = record { whole = search (rules, received_whole, received_rise); rises = search (rules, received_whole, received_rise) }

pub sent_row-row-requires : goal.sent_row-row-requires
sent_row-row-requires c = let a = c.args in
    let passed = a.tables.now.passed in
    record { whole = (sent_whole passed, c.requires); le_r = newest_there a.self.me.0 c.patch-column.result passed c.requires c.newest_near-candidate.ensures }

pub returns : goal.returns
returns c = let a = c.args in
    let known = c.patch-column in
    let newest = c.newest_near-candidate in
    back_is (own_of (tables_in a.tables.now) (a.self.me.0 - 1)) a.self a.message known.result
    newest.result
    c.sent_row-row.result
    known.ensures
    newest.ensures
    c.sent_row-row.ensures
