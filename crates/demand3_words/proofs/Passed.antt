-- What a turn that no question refuses has passed, on any session.
use mathlib.Core.Path.{◌≡◌, refl}
use mathlib.Core.Bool.{Bool, true, false, not, ◌&&◌}
use mathlib.Core.List.{List}
use Prim.Native.Nat.{ℕ, ◌-◌, ◌<◌}
use native.Mathlib.Omega.{arith}
use borrow.Author.Tests.{not-true}
use lib.ListN.{length}
use lib.Dec.{eqb, ltb}
use Rattle.book.specs.declared.Process.{Process}
use Rattle.book.specs.declared.TableRows.{TableRows}
use Rattle.book.specs.Bounds.{most_processes}
use Rattle.book.specs.Lent.{Tables}
use Rattle.book.specs.Check.{tables_question}
use Rattle.book.specs.Accepted.{AreAccepted}
use Rattle.book.specs.View.{first_rows}
use Rattle.book.proofs.Questions.{then_none}
use Rattle.lists.proofs.Tests.{and_both}
use Rattle.lists.specs.Over.{all_to}
use Rattle.lists.proofs.Over.{all_in}
use Rattle.line_theory.proofs.Accepted.{passed_size}
use Rattle.machine.specs.Own.{own_of}
use Rattle.machine.specs.Named.{participant_named, is_participant, tally_limit}
use Rattle.machine_laws.specs.Own.{IsOwn}
use Rattle.machine_laws.proofs.Theorems.{is_own}
use Rattle.participant_laws.proofs.Accepted.{Named, both_named}
use Rattle.session.specs.declared.Session.{Session}
use Rattle.session.specs.declared.Waiting.{Waiting}
use Rattle.session.specs.Workers.{initiator_of}
use Rattle.session.specs.Held.{waiting_bytes, held, is_stray}
use Rattle.session.specs.Fits.{initiator_fits, participant_fits, strand_within, strand_fits, place_fits, session_fits}
use Rattle.session.specs.Calls.{turn_question}
use Rattle.turns.specs.Parts.{Deliverable}
use Rattle.turns.proofs.Delivering.{deliverable}
use Rattle.turns.proofs.Turning.{is_participant_lem, session_none, passed_names, passed_fits}

-- what waits on the strand of a participant is no stray message
module _ (t : Tables) (session : Session) (strands : List ℕ) where
  fits_places : session_fits t session strands ≡ true → (k : ℕ) → k < 16 → place_fits t session strands k ≡ true
  unfolding session_fits
  fits_places fits k small =
      let places : Bool = all_to most_processes (place_fits t session strands) in
      let few : Bool = ltb session.delivered tally_limit in
      let a = and_both (eqb session.n t.shape.n) (initiator_fits t session && (places && few)) fits in
      let b = and_both (initiator_fits t session) (places && few) a.1 in
      all_in 16 (place_fits t session strands) (and_both places few b.1).0 k small

  holds_no_stray : (k : ℕ) → place_fits t session strands k ≡ true
      → is_participant t.shape.n (initiator_of session) k ≡ true
      → is_stray (held t.shape.n session k (waiting_bytes t.shape.n session strands k)) ≡ false
  unfolding place_fits strand_fits
  holds_no_stray k fits there =
      let w : Waiting = held t.shape.n session k (waiting_bytes t.shape.n session strands k) in
      let within : Bool = strand_within t.shape.n session strands k in
      let a = and_both (participant_fits t session k) (within && strand_fits session k w) (rw there at fits) in
      not-true (is_stray w) (and_both (not (is_stray w)) _ (and_both within (strand_fits session k w) a.1).1).0

module _ (t : Tables) (session : Session) (p : Process) (strands : List ℕ)
    (accepted : turn_question t session p strands ≡ 0) where
  turn_tables : tables_question t ≡ 0
  unfolding turn_question
  turn_tables = (then_none (tables_question t) _ accepted).0

  named : participant_named t.shape.n p.0 session.initiator.0 ≡ true
  named = passed_names t session p strands (session_none t session p strands accepted)

  fits : session_fits t session strands ≡ true
  fits = passed_fits t session p strands (session_none t session p strands accepted)

  part_there : is_participant t.shape.n (initiator_of session) (p.0 - 1) ≡ true
  part_there = is_participant_lem t.shape.n p.0 session.initiator.0 named

  -- the process named is a participant
  pub names : Named t.shape.n p.0 session.initiator.0
  names = both_named t.shape.n p.0 session.initiator.0 named

  pub place_small : p.0 - 1 < 16
  place_small = omega (arith, names, passed_size t turn_tables)

  -- on its strand is no stray message
  pub no_stray : is_stray (held t.shape.n session (p.0 - 1) (waiting_bytes t.shape.n session strands (p.0 - 1))) ≡ false
  no_stray =
      holds_no_stray t session strands (p.0 - 1)
      (fits_places t session strands fits (p.0 - 1) place_small) part_there

  module _ (sixteen : length t.shape.counts ≡ most_processes) where
    turn_accepted : AreAccepted t
    turn_accepted = record { sixteen = sixteen; passed = turn_tables }

    -- both machines see checkpoints of a book
    pub its_own : IsOwn (own_of t (p.0 - 1)) (p.0 - 1)
    its_own = is_own turn_accepted (p.0 - 1) (omega (arith, names))

    pub initiator_own : IsOwn (own_of t (initiator_of session)) (initiator_of session)
    initiator_own = is_own turn_accepted (initiator_of session) (omega (arith, names))

    abbrev rows : TableRows
    rows = record { shape = t.shape; first = first_rows t.shape.counts }

    given : Deliverable rows session (p.0 - 1)
    given =
        deliverable rows t.sent t.received session strands (p.0 - 1)
        (record { accepted = turn_accepted; starts = refl }) fits (names.initiator_some, names.initiator_most) part_there

    -- and the counts can rise by one
    pub rounds_few : session.machine.rounds < tally_limit
    rounds_few = given.rounds

    pub delivered_few : session.delivered < tally_limit
    delivered_few = given.counted.1
