-- `state_question` meets its contract.
use mathlib.Core.Path.{refl, sym, ◌∙◌}
use Prim.Native.Nat.{◌-◌}
use native.Mathlib.Omega.{arith}
use Rattle.accepted.specs.Holding.{tables_in}
use Rattle.book.specs.Names.{is_named, is_purpose}
use Rattle.book.specs.declared.Question.TheVariants.{Named, Purpose, StateFits}
use Rattle.book.proofs.Names.{named_in}
use Rattle.book.proofs.Refusals.{refuses, accepts}
use Rattle.machine.specs.Own.{own_of}
use Rattle.machine.proofs.Answers.{first_no, second_no, third_no, all_yes}
use Rattle.initiator.specs.Fits.{fits}
use Rattle.initiator.proofs.Initiator.state_question.Goals as goal

pub returns-then-not-is_named : goal.returns-then-not-is_named
returns-then-not-is_named c =
    let a = c.args in
    let fitting = fits (own_of (tables_in a.tables.now) (a.self.me.0 - 1)) a.self in
    refuses Named tt (sym (first_no 10 11 13 (is_named a.tables.now.rows.shape.n a.self.me.0) (is_purpose a.self.purpose) fitting (omega arith)
    (sym c.is_named.ensures ∙ c.if-not-is_named.true)))

pub returns-then-not-is_purpose : goal.returns-then-not-is_purpose
returns-then-not-is_purpose c =
    let a = c.args in
    let fitting = fits (own_of (tables_in a.tables.now) (a.self.me.0 - 1)) a.self in
    refuses Purpose tt (sym (second_no 10 11 13 (is_named a.tables.now.rows.shape.n a.self.me.0) (is_purpose a.self.purpose) fitting
    (sym c.is_named.ensures ∙ c.if-not-is_named.false)
    (omega arith)
    (sym c.is_purpose.ensures ∙ c.if-not-is_purpose.true)))

pub fits-requires : goal.fits-requires
fits-requires c =
    let a = c.args in
    named_in a.tables.now.rows.shape.n a.self.me.0 (sym c.is_named.ensures ∙ c.if-not-is_named.false)

pub returns-then-not-fits : goal.returns-then-not-fits
returns-then-not-fits c =
    let a = c.args in
    let fitting = fits (own_of (tables_in a.tables.now) (a.self.me.0 - 1)) a.self in
    refuses StateFits tt (sym (third_no 10 11 13 (is_named a.tables.now.rows.shape.n a.self.me.0) (is_purpose a.self.purpose) fitting
    (sym c.is_named.ensures ∙ c.if-not-is_named.false)
    (sym c.is_purpose.ensures ∙ c.if-not-is_purpose.false)
    (sym c.fits.ensures ∙ c.if-not-fits.true)))

pub returns : goal.returns
returns c =
    let a = c.args in
    let fitting = fits (own_of (tables_in a.tables.now) (a.self.me.0 - 1)) a.self in
    accepts (sym (all_yes 10 11 13 (is_named a.tables.now.rows.shape.n a.self.me.0) (is_purpose a.self.purpose) fitting
    (sym c.is_named.ensures ∙ c.if-not-is_named.false)
    (sym c.is_purpose.ensures ∙ c.if-not-is_purpose.false)
    (sym c.fits.ensures ∙ c.if-not-fits.false))) refl
