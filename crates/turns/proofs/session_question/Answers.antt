-- `session_question` meets its contract: at each return the tests that led there say which question fails first.
use mathlib.Core.Path.{◌≡◌, refl, sym, ◌∙◌}
use mathlib.Core.Bool.{true, ◌&&◌}
use Prim.Native.Nat.{◌≤◌}
use native.Mathlib.Omega.{arith}
use Rattle.accepted.specs.Holding.{tables_in}
use Rattle.book.specs.declared.Question.TheVariants.{Named, Purpose, StateFits}
use Rattle.book.proofs.Refusals.{refuses, accepts}
use Rattle.lists.proofs.Tests.{both_and, and_first, and_second}
use Rattle.machine.specs.Named.{participant_named}
use Rattle.machine.proofs.Answers.{first_no, second_no, third_no, all_yes}
use Rattle.session.specs.Fits.{session_named, session_purposes, session_fits}
use Rattle.turns.proofs.Turning.{participant_there}
use Rattle.turns.proofs.session_question.Goals as goal

pub returns-then-not-participant_named : goal.returns-then-not-participant_named
returns-then-not-participant_named c = let a = c.args in
    let told = c.participant_named in
    refuses Named tt (sym (first_no 10 11 13 (participant_named a.tables.now.rows.shape.n a.p.0 a.session.initiator.0 && session_named a.tables.now.rows.shape.n a.session) (session_purposes a.session)
    (session_fits (tables_in a.tables.now) a.session a.strands.now)
    (omega arith)
    (and_first (participant_named a.tables.now.rows.shape.n a.p.0 a.session.initiator.0) (session_named a.tables.now.rows.shape.n a.session) (sym told.ensures ∙ c.if-not-participant_named.true))))

pub returns-then-not-named : goal.returns-then-not-named
returns-then-not-named c = let a = c.args in
    let told = c.named in
    refuses Named tt (sym (first_no 10 11 13 (participant_named a.tables.now.rows.shape.n a.p.0 a.session.initiator.0 && session_named a.tables.now.rows.shape.n a.session) (session_purposes a.session)
    (session_fits (tables_in a.tables.now) a.session a.strands.now)
    (omega arith)
    (and_second (participant_named a.tables.now.rows.shape.n a.p.0 a.session.initiator.0) (session_named a.tables.now.rows.shape.n a.session) (sym told.ensures ∙ c.if-not-named.true))))

pub returns-then-not-purposes : goal.returns-then-not-purposes
returns-then-not-purposes c = let named_in : let a = c.args in participant_named a.tables.now.rows.shape.n a.p.0 a.session.initiator.0 ≡ true = let told = c.participant_named in sym told.ensures ∙ c.if-not-participant_named.false in
    let names : let a = c.args in
    (participant_named a.tables.now.rows.shape.n a.p.0 a.session.initiator.0 && session_named a.tables.now.rows.shape.n a.session) ≡ true = let a = c.args in
    let told = c.named in
    both_and (participant_named a.tables.now.rows.shape.n a.p.0 a.session.initiator.0) (session_named a.tables.now.rows.shape.n a.session) (named_in) (sym told.ensures ∙ c.if-not-named.false) in
    let a = c.args in
    let told = c.purposes in
    refuses Purpose tt (sym (second_no 10 11 13 (participant_named a.tables.now.rows.shape.n a.p.0 a.session.initiator.0 && session_named a.tables.now.rows.shape.n a.session) (session_purposes a.session)
    (session_fits (tables_in a.tables.now) a.session a.strands.now)
    (names)
    (omega arith)
    (sym told.ensures ∙ c.if-not-purposes.true)))

pub fits-requires : goal.fits-requires
fits-requires c = let named_in : let a = c.args in participant_named a.tables.now.rows.shape.n a.p.0 a.session.initiator.0 ≡ true = let told = c.participant_named in sym told.ensures ∙ c.if-not-participant_named.false in
    let there : let a = c.args in (1 ≤ a.session.initiator.0) × (a.session.initiator.0 ≤ a.tables.now.rows.shape.n) = let a = c.args in
    (participant_there a.tables.now.rows.shape.n a.p.0 a.session.initiator.0 (named_in)).1 in
    there

pub returns-then-not-fits : goal.returns-then-not-fits
returns-then-not-fits c = let named_in : let a = c.args in participant_named a.tables.now.rows.shape.n a.p.0 a.session.initiator.0 ≡ true = let told = c.participant_named in sym told.ensures ∙ c.if-not-participant_named.false in
    let names : let a = c.args in
    (participant_named a.tables.now.rows.shape.n a.p.0 a.session.initiator.0 && session_named a.tables.now.rows.shape.n a.session) ≡ true = let a = c.args in
    let told = c.named in
    both_and (participant_named a.tables.now.rows.shape.n a.p.0 a.session.initiator.0) (session_named a.tables.now.rows.shape.n a.session) (named_in) (sym told.ensures ∙ c.if-not-named.false) in
    let right : let a = c.args in session_purposes a.session ≡ true = let told = c.purposes in sym told.ensures ∙ c.if-not-purposes.false in
    let a = c.args in
    let told = c.fits in
    refuses StateFits tt (sym (third_no 10 11 13 (participant_named a.tables.now.rows.shape.n a.p.0 a.session.initiator.0 && session_named a.tables.now.rows.shape.n a.session) (session_purposes a.session)
    (session_fits (tables_in a.tables.now) a.session a.strands.now)
    (names)
    (right)
    (sym told.ensures ∙ c.if-not-fits.true)))

pub returns : goal.returns
returns c = let named_in : let a = c.args in participant_named a.tables.now.rows.shape.n a.p.0 a.session.initiator.0 ≡ true = let told = c.participant_named in sym told.ensures ∙ c.if-not-participant_named.false in
    let names : let a = c.args in
    (participant_named a.tables.now.rows.shape.n a.p.0 a.session.initiator.0 && session_named a.tables.now.rows.shape.n a.session) ≡ true = let a = c.args in
    let told = c.named in
    both_and (participant_named a.tables.now.rows.shape.n a.p.0 a.session.initiator.0) (session_named a.tables.now.rows.shape.n a.session) (named_in) (sym told.ensures ∙ c.if-not-named.false) in
    let right : let a = c.args in session_purposes a.session ≡ true = let told = c.purposes in sym told.ensures ∙ c.if-not-purposes.false in
    let a = c.args in
    let told = c.fits in
    accepts (sym (all_yes 10 11 13 (participant_named a.tables.now.rows.shape.n a.p.0 a.session.initiator.0 && session_named a.tables.now.rows.shape.n a.session) (session_purposes a.session)
    (session_fits (tables_in a.tables.now) a.session a.strands.now)
    (names)
    (right)
    (sym told.ensures ∙ c.if-not-fits.false))) refl
