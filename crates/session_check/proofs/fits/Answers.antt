-- `fits` meets its contract.
use mathlib.Core.Path.{◌≡◌, sym, ◌∙◌}
use mathlib.Core.Bool.{true}
use Rattle.accepted.specs.Holding.{tables_in}
use Rattle.session.specs.Fits.{initiator_fits}
use Rattle.session_check.proofs.Places.{fitting_machine, begun_told, other_size, initiator_not, too_many, as_places}
use Rattle.session_check.proofs.fits.Goals as goal

pub returns-then-session-tables : goal.returns-then-session-tables
returns-then-session-tables c =
    let a = c.args in
    other_size (tables_in a.tables.now) a.session a.strands.now c.if-session-tables.true

pub returns-then-not-initiator_fits : goal.returns-then-not-initiator_fits
returns-then-not-initiator_fits c =
    let a = c.args in
    initiator_not (tables_in a.tables.now) a.session a.strands.now c.if-session-tables.false
    (sym (begun_told (tables_in a.tables.now) a.session c.initiator_fits.ensures) ∙ c.if-not-initiator_fits.true)

pub returns-then-session-ge-TALLY_LIMIT : goal.returns-then-session-ge-TALLY_LIMIT
returns-then-session-ge-TALLY_LIMIT c =
    let a = c.args in
    let begun : initiator_fits (tables_in a.tables.now) a.session ≡ true = sym (begun_told (tables_in a.tables.now) a.session c.initiator_fits.ensures) ∙ c.if-not-initiator_fits.false in
    too_many (tables_in a.tables.now) a.session a.strands.now c.if-session-tables.false begun c.if-session-ge-TALLY_LIMIT.true

pub places_fit-requires : goal.places_fit-requires
places_fit-requires c =
    let a = c.args in
    let begun : initiator_fits (tables_in a.tables.now) a.session ≡ true = sym (begun_told (tables_in a.tables.now) a.session c.initiator_fits.ensures) ∙ c.if-not-initiator_fits.false in
    record { le_initiator = c.requires.0; n_value = fitting_machine (tables_in a.tables.now) a.session begun }

pub returns : goal.returns
returns c =
    let a = c.args in
    let begun : initiator_fits (tables_in a.tables.now) a.session ≡ true = sym (begun_told (tables_in a.tables.now) a.session c.initiator_fits.ensures) ∙ c.if-not-initiator_fits.false in
    as_places (tables_in a.tables.now) a.session a.strands.now c.if-session-tables.false begun c.if-session-ge-TALLY_LIMIT.false c.places_fit.ensures
