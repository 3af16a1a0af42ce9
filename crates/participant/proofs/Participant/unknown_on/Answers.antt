-- `unknown_on` meets its contract.
use mathlib.Core.Path.{◌≡◌, ap, sym, subst, ◌∙◌}
use borrow.Author.Tests.{not-true, not-false}
use mathlib.Core.Bool.{not}
use mathlib.Core.List.{List}
use Prim.Native.Nat.{◌-◌}
use Rattle.book.specs.declared.Count.{Count}
use Rattle.matrix.specs.Matrix.{not_known_row}
use borrow.Author.Rules.{rules}
use Rattle.matrix.specs.Entries.{same}
use Rattle.matrix.proofs.Equal.{rows_same, rows_differ}
use Rattle.participant.proofs.Fitting.{unknown_elsewhere, unknown_row, unknown_column}
use Rattle.participant.proofs.Participant.unknown_on.Goals as goal

pub returns-then-ne : goal.returns-then-ne
returns-then-ne c = let a = c.args in
    sym (unknown_elsewhere a.r.0 a.self (not-true _ (sym c.ne.ensures ∙ c.if-ne.true)))

pub returns-then-ne-2 : goal.returns-then-ne-2
returns-then-ne-2 c = let row_told : let state = c.args.self in
    same state.row (not_known_row state.n (state.me.0 - 1)) ≡ not c.ne-2.result = let state = c.args.self in
    subst (λ (l : List Count). same state.row l ≡ not c.ne-2.result) c.not_known_row-unknown.ensures (sym (rows_differ state.row c.not_known_row-unknown.result c.ne-2.result (search rules) (search rules) c.ne-2.ensures)) in
    let a = c.args in
    sym (unknown_row a.r.0 a.self (not-false _ (sym c.ne.ensures ∙ c.if-ne.false))
    (row_told ∙ ap not c.if-ne-2.true))

pub returns : goal.returns
returns c = let row_told : let state = c.args.self in
    same state.row (not_known_row state.n (state.me.0 - 1)) ≡ not c.ne-2.result = let state = c.args.self in
    subst (λ (l : List Count). same state.row l ≡ not c.ne-2.result) c.not_known_row-unknown.ensures (sym (rows_differ state.row c.not_known_row-unknown.result c.ne-2.result (search rules) (search rules) c.ne-2.ensures)) in
    let a = c.args in
    let known = c.not_known_row-unknown in
    subst (λ (l : List Count). c.eq.result ≡ same a.self.column l) known.ensures
    (rows_same a.self.column known.result c.eq.result (search rules) (search rules) c.eq.ensures)
    ∙ sym (unknown_column a.r.0 a.self (not-false _ (sym c.ne.ensures ∙ c.if-ne.false))
    (row_told ∙ ap not c.if-ne-2.false))
