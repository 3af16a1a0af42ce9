-- `place_holds` meets its contract.
use mathlib.Core.Path.{◌≡◌, sym, ◌∙◌}
use mathlib.Core.Bool.{true, true≢false}
use Prim.Native.Nat.{◌-◌}
use lib.ListN.{length}
use Rattle.accepted.specs.Holding.{tables_in}
use Rattle.line_theory.proofs.Accepted.{accepted_size}
use Rattle.machine.specs.Named.{is_participant}
use Rattle.session.proofs.Places.{participant_there}
use Rattle.session_check.specs.Parts.{machine_fits, length_fits}
use Rattle.session_check.proofs.Places.{place_absent, place_machine, place_within, place_not, place_held}
use Rattle.session_check.proofs.place_holds.Goals as goal

pub returns-then-not-is_participant : goal.returns-then-not-is_participant
returns-then-not-is_participant c =
    let a = c.args in
    let told = c.absent_holds.ensures in record {
      place_told = place_absent (tables_in a.tables.now) a.initiator.0 a.purpose a.p a.awaited a.ended a.waits a.strands.now a.k c.absent_holds.result
          (sym c.is_participant.ensures ∙ c.if-not-is_participant.true)
          told.0
          told.1;
      waits_in_bounds = λ h. absurd (true≢false (sym h ∙ told.1));
    }

pub machine_fits-requires : goal.machine_fits-requires
machine_fits-requires c =
    let a = c.args in
    let there : is_participant a.tables.now.rows.shape.n (a.initiator.0 - 1) a.k ≡ true = sym c.is_participant.ensures ∙ c.if-not-is_participant.false in
    participant_there a.tables.now.rows.shape.n (a.initiator.0 - 1) a.k there

pub returns-then-not-machine_fits : goal.returns-then-not-machine_fits
returns-then-not-machine_fits c =
    let a = c.args in
    let there : is_participant a.tables.now.rows.shape.n (a.initiator.0 - 1) a.k ≡ true = sym c.is_participant.ensures ∙ c.if-not-is_participant.false in
    record { place_told = place_machine (tables_in a.tables.now) a.initiator.0 a.purpose a.p a.awaited a.ended a.waits a.strands.now a.k there (sym c.machine_fits.ensures ∙ c.if-not-machine_fits.true); waits_in_bounds = λ h. absurd (true≢false (sym h)) }

pub within-requires : goal.within-requires
within-requires c = record { le_n = accepted_size c.args.tables.now.passed.accepted; k_bound = c.requires.1 }

pub returns-then-not-within : goal.returns-then-not-within
returns-then-not-within c =
    let a = c.args in
    let there : is_participant a.tables.now.rows.shape.n (a.initiator.0 - 1) a.k ≡ true = sym c.is_participant.ensures ∙ c.if-not-is_participant.false in
    let machine : machine_fits (tables_in a.tables.now) a.initiator.0 a.purpose a.p a.k ≡ true = sym c.machine_fits.ensures ∙ c.if-not-machine_fits.false in
    record { place_told = place_within (tables_in a.tables.now) a.initiator.0 a.purpose a.p a.awaited a.ended a.waits a.strands.now a.k there machine (sym c.within.ensures ∙ c.if-not-within.true); waits_in_bounds = λ h. absurd (true≢false (sym h)) }

pub below-w-requires : goal.below-w-requires
below-w-requires c =
    let a = c.args in
    let within : length_fits a.tables.now.rows.shape.n (a.initiator.0 - 1) a.k a.waits (length a.strands.now) ≡ true = sym c.within.ensures ∙ c.if-not-within.false in
    record { le_n = accepted_size c.args.tables.now.passed.accepted; le_initiator = c.requires; strands_value = within }

pub returns-then-not-held_fits : goal.returns-then-not-held_fits
returns-then-not-held_fits c =
    let a = c.args in
    let there : is_participant a.tables.now.rows.shape.n (a.initiator.0 - 1) a.k ≡ true = sym c.is_participant.ensures ∙ c.if-not-is_participant.false in
    let machine : machine_fits (tables_in a.tables.now) a.initiator.0 a.purpose a.p a.k ≡ true = sym c.machine_fits.ensures ∙ c.if-not-machine_fits.false in
    let within : length_fits a.tables.now.rows.shape.n (a.initiator.0 - 1) a.k a.waits (length a.strands.now) ≡ true = sym c.within.ensures ∙ c.if-not-within.false in
    let w = c.below-w in
    record { place_told = place_not (tables_in a.tables.now) a.initiator.0 a.purpose a.p a.awaited a.ended a.waits a.strands.now a.k there machine within w.result c.below-w.ensures.told (sym c.held_fits.ensures ∙ c.if-not-held_fits.true); waits_in_bounds = λ h. absurd (true≢false (sym h)) }

pub returns : goal.returns
returns c =
    let a = c.args in
    let there : is_participant a.tables.now.rows.shape.n (a.initiator.0 - 1) a.k ≡ true = sym c.is_participant.ensures ∙ c.if-not-is_participant.false in
    let machine : machine_fits (tables_in a.tables.now) a.initiator.0 a.purpose a.p a.k ≡ true = sym c.machine_fits.ensures ∙ c.if-not-machine_fits.false in
    let within : length_fits a.tables.now.rows.shape.n (a.initiator.0 - 1) a.k a.waits (length a.strands.now) ≡ true = sym c.within.ensures ∙ c.if-not-within.false in
    let w = c.below-w in
    record { place_told = place_held (tables_in a.tables.now) a.initiator.0 a.purpose a.p a.awaited a.ended a.waits a.strands.now a.k there machine within w.result c.below-w.ensures.told (sym c.held_fits.ensures ∙ c.if-not-held_fits.false); waits_in_bounds = c.below-w.ensures.waits_in_bounds }
