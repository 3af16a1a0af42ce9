-- `state_question` meets its contract.
use mathlib.Core.Path.{◌≡◌, refl, sym, ◌∙◌}
use mathlib.Core.Bool.{Bool, true}
use Prim.Native.Nat.{◌-◌}
use native.Mathlib.Omega.{arith}
use Rattle.book.specs.declared.Question.TheVariants.{Named, Purpose, StateFits}
use Rattle.accepted.specs.Holding.{tables_in}
use Rattle.book.specs.Names.{is_purpose}
use Rattle.book.proofs.Refusals.{refuses, accepts}
use Rattle.machine.specs.Own.{own_of}
use Rattle.machine.specs.Named.{participant_named}
use Rattle.machine.proofs.Answers.{first_no, second_no, third_no, all_yes}
use Rattle.participant.specs.Fits.{fits}
use Rattle.participant.proofs.Fitting.{named_there}
use Rattle.participant.proofs.Participant.state_question.Goals as goal
use Rattle.participant.proofs.Participant.state_question.Goals.{Else-not-participant_named, Else-not-is_purpose}

named : (c : Else-not-participant_named) → let a = c.args in participant_named a.tables.now.rows.shape.n a.self.me.0 a.self.initiator.0 ≡ true
named c = sym c.participant_named.ensures ∙ c.if-not-participant_named.false

purposed : (c : Else-not-is_purpose) → is_purpose c.args.self.purpose ≡ true
purposed c = sym c.is_purpose.ensures ∙ c.if-not-is_purpose.false

pub returns-then-not-participant_named : goal.returns-then-not-participant_named
returns-then-not-participant_named c =
    let a = c.args in
    let fitting : Bool = fits (own_of (tables_in a.tables.now) (a.self.me.0 - 1)) a.self in
    refuses Named tt
    (sym (first_no 10 11 13 (participant_named a.tables.now.rows.shape.n a.self.me.0 a.self.initiator.0) (is_purpose a.self.purpose) fitting (omega arith)
    (sym c.participant_named.ensures ∙ c.if-not-participant_named.true)))

pub returns-then-not-is_purpose : goal.returns-then-not-is_purpose
returns-then-not-is_purpose c =
    let a = c.args in
    let fitting : Bool = fits (own_of (tables_in a.tables.now) (a.self.me.0 - 1)) a.self in
    refuses Purpose tt
    (sym (second_no 10 11 13 (participant_named a.tables.now.rows.shape.n a.self.me.0 a.self.initiator.0) (is_purpose a.self.purpose) fitting
    (named (goal.at.returns-then-not-is_purpose c).Else-not-participant_named)
    (omega arith)
    (sym c.is_purpose.ensures ∙ c.if-not-is_purpose.true)))

pub fits-requires : goal.fits-requires
fits-requires c =
    let a = c.args in
    (named_there a.tables.now.rows.shape.n a.self.me.0 a.self.initiator.0 (named (goal.at.fits-requires c).Else-not-participant_named)).0

pub returns-then-not-fits : goal.returns-then-not-fits
returns-then-not-fits c =
    let a = c.args in
    let fitting : Bool = fits (own_of (tables_in a.tables.now) (a.self.me.0 - 1)) a.self in
    refuses StateFits tt
    (sym (third_no 10 11 13 (participant_named a.tables.now.rows.shape.n a.self.me.0 a.self.initiator.0) (is_purpose a.self.purpose) fitting
    (named (goal.at.returns-then-not-fits c).Else-not-participant_named)
    (purposed (goal.at.returns-then-not-fits c).Else-not-is_purpose)
    (sym c.fits.ensures ∙ c.if-not-fits.true)))

pub returns : goal.returns
returns c =
    let a = c.args in
    let fitting : Bool = fits (own_of (tables_in a.tables.now) (a.self.me.0 - 1)) a.self in
    accepts
    (sym (all_yes 10 11 13 (participant_named a.tables.now.rows.shape.n a.self.me.0 a.self.initiator.0) (is_purpose a.self.purpose) fitting
    (named (goal.at.returns c).Else-not-participant_named)
    (purposed (goal.at.returns c).Else-not-is_purpose)
    (sym c.fits.ensures ∙ c.if-not-fits.false)))
    refl
