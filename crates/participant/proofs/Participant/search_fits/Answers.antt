-- `search_fits` meets its contract.
use mathlib.Core.Path.{◌≡◌, ap, sym, subst, ◌∙◌}
use mathlib.Core.Bool.{not}
use mathlib.Core.List.{List}
use Prim.Native.Nat.{◌-◌}
use borrow.Author.Rules.{rules}
use Rattle.accepted.specs.Holding.{tables_in}
use Rattle.book.specs.declared.Count.{Count}
use Rattle.matrix.specs.Entries.{same}
use Rattle.matrix.proofs.Equal.{rows_differ}
use Rattle.consistency.proofs.Calls.{sent_whole, received_whole, received_rise}
use Rattle.machine.specs.Own.{Own, own_of, sent_row}
use Rattle.participant.proofs.Fitting.{search_row, search_newest}
use Rattle.participant.proofs.Participant.search_fits.Goals as goal

pub sent_row-own-requires : goal.sent_row-own-requires
sent_row-own-requires c = record { whole = search (rules, sent_whole); le_r = search (rules, sent_whole) }

pub returns-then-ne : goal.returns-then-ne
returns-then-ne c = let own : Own = let a = c.args in own_of (tables_in a.tables.now) (a.self.me.0 - 1) in
    let row_told : same c.args.self.row (sent_row (own) c.args.self.candidate.0) ≡ not c.ne.result = subst (λ (l : List Count). same c.args.self.row l ≡ not c.ne.result) c.sent_row-own.ensures (sym (rows_differ c.args.self.row c.sent_row-own.result c.ne.result (search rules) (search rules) c.ne.ensures)) in
    sym (search_row (own) c.args.self (row_told ∙ ap not c.if-ne.true))

pub newest_near-newest-requires : goal.newest_near-newest-requires
newest_near-newest-requires c = record { whole = search (rules, received_whole, received_rise); rises = search (rules, received_whole, received_rise) }

pub returns : goal.returns
returns c = let own : Own = let a = c.args in own_of (tables_in a.tables.now) (a.self.me.0 - 1) in
    let row_told : same c.args.self.row (sent_row (own) c.args.self.candidate.0) ≡ not c.ne.result = subst (λ (l : List Count). same c.args.self.row l ≡ not c.ne.result) c.sent_row-own.ensures (sym (rows_differ c.args.self.row c.sent_row-own.result c.ne.result (search rules) (search rules) c.ne.ensures)) in
    let newest = c.newest_near-newest in
    c.eq.ensures ∙ sym (search_newest (own) c.args.self newest.result.0 newest.ensures
    (row_told ∙ ap not c.if-ne.false))
