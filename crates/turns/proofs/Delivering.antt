-- From a session that fits the tables to what a delivery is given; what a strand holds, and what is handed over.
use mathlib.Core.Path.{◌≡◌, refl, sym, ap, ◌∙◌}
use mathlib.Core.Bool.{Bool, true, false, ◌&&◌, true≢false}
use mathlib.Core.List.{List}
use mathlib.Core.Logic.{◌⊎◌, inl, inr}
use Rattle.std.specs.Prelude.{Option, Some, None, IsSome}
use Prim.Native.Nat.{ℕ, suc, ◌+◌, ◌-◌, ◌≤◌, ◌<◌}
use native.Mathlib.Omega.{arith}
use borrow.Author.Tests.{eqb-true, ne_eqb, ltb-true, leb-true}
use lib.ListN.{length, take, drop}
use lib.Dec.{eqb, ltb, leb}
use Rattle.book.specs.Lent.{Tables, lent}
use Rattle.book.specs.declared.TableRows.{TableRows}
use Rattle.book.specs.InTurn.{ask}
use Rattle.book.proofs.Questions.{then_none, asked_yes}
use Rattle.lists.proofs.Tests.{and_both}
use Rattle.lists.specs.Over.{all_to}
use Rattle.lists.proofs.Over.{all_in}
use Rattle.line_theory.proofs.Accepted.{accepted_size}
use Rattle.lists.specs.Pick.{pick}
use Rattle.machine.specs.Own.{own_of}
use Rattle.machine.specs.Named.{is_participant, tally_limit}
use Rattle.message.specs.declared.Message.{Message}
use Rattle.message.specs.Formed.{message_formed}
use Rattle.message.proofs.Found.{found_some}
use Rattle.participant.specs.declared.Participant.{Participant}
use Rattle.participant.specs.Calls as participant
use Rattle.initiator.specs.Fits as initiator
use Rattle.initiator.specs.Calls.{message_question}
use Rattle.initiator.proofs.Fitting.{fitting_size, fitting_rounds}
use Rattle.strands.specs.Strands.{slot_size, strand_start, length_on, strand_bytes}
use Rattle.session.specs.declared.Session.{Session}
use Rattle.session.proofs.Places.{participant_there}
use Rattle.session.specs.declared.Turned.{Turned}
use Rattle.session.specs.declared.Waiting.{Waiting}
use Rattle.session.specs.declared.Waiting.TheVariants.{Nothing, Asking, Ending, Report, Stray}
use Rattle.session.specs.Workers.{initiator_of, participant_at}
use Rattle.session.specs.Held.{sender_in, ends_search, held_down, held_up, waiting_bytes, held, by_waiting, is_report}
use Rattle.session.specs.Fits.{initiator_fits, participant_fits, strand_within, strand_fits, is_absent, place_fits, session_fits}
use Rattle.session.specs.Steps.{deliver, deliver_down, deliver_up}
use Rattle.book.specs.Accepted.{AcceptedRows}
use Rattle.turns.specs.Parts.{Deliverable}

-- ---- what fits

module _ (tables : Tables) (session : Session) (strands : List ℕ)
    (fits : session_fits tables session strands ≡ true) where
  abbrev of_initiator : Bool
  of_initiator = initiator_fits tables session

  abbrev of_places : Bool
  of_places = all_to 16 (place_fits tables session strands)

  abbrev of_count : Bool
  of_count = ltb session.delivered tally_limit

  parts : (of_initiator ≡ true) × ((of_places && of_count) ≡ true)
  unfolding session_fits
  parts =
      and_both of_initiator (of_places && of_count)
      (and_both (eqb session.n tables.shape.n) (of_initiator && (of_places && of_count)) fits).1

  fits_delivered : session.delivered < tally_limit
  fits_delivered = ltb-true session.delivered tally_limit (and_both of_places of_count parts.1).1

  abbrev its_fits : Bool
  its_fits = initiator.fits (own_of tables (initiator_of session)) session.machine

  of_machine : (eqb session.machine.me.0 session.initiator.0 ≡ true) × (its_fits ≡ true)
  unfolding initiator_fits
  of_machine =
      let same : Bool = eqb session.machine.purpose session.purpose in
      let both = and_both (eqb session.machine.me.0 session.initiator.0) (same && its_fits) parts.0 in
      (both.0, (and_both same its_fits both.1).1)

  fits_me : session.machine.me.0 ≡ session.initiator.0
  fits_me = eqb-true session.machine.me.0 session.initiator.0 of_machine.0

  pub fits_size : session.machine.n ≡ tables.shape.n
  fits_size = fitting_size (own_of tables (initiator_of session)) session.machine of_machine.1

  fits_rounds : session.machine.rounds < tally_limit
  fits_rounds = fitting_rounds (own_of tables (initiator_of session)) session.machine of_machine.1

  module _ (k : ℕ) (there : is_participant tables.shape.n (initiator_of session) k ≡ true) (few : k < 16) where
    abbrev of_its : Bool
    of_its = participant_fits tables session k

    abbrev of_strand : Bool
    of_strand = strand_fits session k (held tables.shape.n session k (waiting_bytes tables.shape.n session strands k))

    abbrev is_within : Bool
    is_within = strand_within tables.shape.n session strands k

    its_place : (of_its && (is_within && of_strand)) ≡ true
    unfolding place_fits
    its_place =
        let no_place : Bool = is_absent (participant_at session k) && eqb (length_on session.lengths k) 0 in
        let chosen : pick (is_participant tables.shape.n (initiator_of session) k) (of_its && (is_within && of_strand)) no_place ≡ (of_its && (is_within && of_strand)) =
        ap (λ (b : Bool). pick b (of_its && (is_within && of_strand)) no_place) there in
        sym chosen ∙ all_in 16 (place_fits tables session strands) (and_both of_places of_count parts.1).0 k few

    pub fits_within : strand_within tables.shape.n session strands k ≡ true
    fits_within = (and_both is_within of_strand (and_both of_its (is_within && of_strand) its_place).1).0

    fits_its : ((participant_at session k).me.0 ≡ suc k) × ((participant_at session k).initiator.0 ≡ session.initiator.0)
    unfolding participant_fits
    fits_its =
        let p = participant_at session k in
        let me : Bool = eqb p.me.0 (suc k) in
        let its : Bool = eqb p.initiator.0 session.initiator.0 in
        let all = and_both me _ (and_both of_its (is_within && of_strand) its_place).0 in
        let rest = and_both its _ all.1 in
        (eqb-true p.me.0 (suc k) all.0, eqb-true p.initiator.0 session.initiator.0 rest.0)

pub deliverable : (rows : TableRows) (sent received : List ℕ) (session : Session) (strands : List ℕ) (k : ℕ)
    → AcceptedRows rows sent received → session_fits (lent rows.shape sent received) session strands ≡ true
    → (1 ≤ session.initiator.0) × (session.initiator.0 ≤ rows.shape.n)
    → is_participant rows.shape.n (initiator_of session) k ≡ true → Deliverable rows session k
deliverable rows sent received session strands k passed fits named there =
    let size = accepted_size passed.accepted in
    let below = participant_there rows.shape.n (initiator_of session) k there in
    let few : k < 16 = omega (arith, size, below) in
    let its = fits_its (lent rows.shape sent received) session strands fits k there few in
    record {
      to_it = omega (arith, below);
      to_initiator = named;
      its_place = its.0;
      its_initiator = its.1;
      there = omega (arith, named, size);
      counted = (few, fits_delivered (lent rows.shape sent received) session strands fits);
      own_place = fits_me (lent rows.shape sent received) session strands fits;
      rounds = fits_rounds (lent rows.shape sent received) session strands fits;
    }

-- ---- the bytes of a strand

module _ (n : ℕ) (session : Session) (strands : List ℕ) (k : ℕ) where
  abbrev waits : ℕ
  waits = length_on session.lengths k

  pub strand_end : (at : ℕ) → at ≡ strand_start n (initiator_of session) k → strand_within n session strands k ≡ true → (waits ≡ 0 → ⊥)
      → at + waits ≤ length strands
  unfolding strand_within
  strand_end at e within some =
      let start : ℕ = strand_start n (initiator_of session) k in
      let both = and_both (leb waits (slot_size n)) (leb (start + waits) (length strands)) (rw (ne_eqb waits 0 some) at within) in
      let ends : start + waits ≤ length strands = leb-true (start + waits) (length strands) both.1 in
      rw e ends

  pub part_is : (at : ℕ) → at ≡ strand_start n (initiator_of session) k
      → take (at + waits - at) (drop at strands) ≡ waiting_bytes n session strands k
  unfolding strand_bytes
  part_is at e =
      let long : at + waits - at ≡ waits = omega arith in
      λ i. take (long i) (drop (e i) strands)

-- ---- a report passes the questions of the initiator

not_report : (w : Waiting) → is_report w ≡ false → w ≡ Report → ⊥
not_report w other is = true≢false (ap (λ (v : Waiting). is_report v) (sym is) ∙ other)

module _ (n : ℕ) (session : Session) (k : ℕ) (s : List ℕ) where
  pub report_passes : held n session k s ≡ Report → message_question n session.machine s ≡ 0
  unfolding held held_down held_up
  report_passes h =
      eqb-true (message_question n session.machine s) 0
      (only (eqb (length s) 0) (eqb (sender_in s) session.initiator.0) (eqb (sender_in s) (suc k))
      (eqb (participant.message_question n (participant_at session k) s) 0)
      (ends_search (participant.read_by n (participant_at session k) s))
      (eqb (message_question n session.machine s) 0) h)
    where
      only : (none down up asked ends passes : Bool)
          → pick none Nothing (pick down (pick asked (pick ends Ending Asking) Stray) (pick up (pick passes Report Stray) Stray)) ≡ Report
          → passes ≡ true
      only true down up asked ends passes e = absurd (not_report Nothing refl e)
      only false true up true true passes e = absurd (not_report Ending refl e)
      only false true up true false passes e = absurd (not_report Asking refl e)
      only false true up false ends passes e = absurd (not_report Stray refl e)
      only false false true asked ends true e = refl
      only false false true asked ends false e = absurd (not_report Stray refl e)
      only false false false asked ends passes e = absurd (not_report Stray refl e)

-- ---- what goes to the participant passes its questions

abbrev goes_down : Waiting → Bool
goes_down w = by_waiting false true true false false w

module _ (n : ℕ) (session : Session) (k : ℕ) (s : List ℕ) where
  abbrev its : Participant
  its = participant_at session k

  pub down_passes : {w : Waiting} → w ≡ held n session k s → (w ≡ Asking) ⊎ (w ≡ Ending) → participant.message_question n its s ≡ 0
  unfolding held held_down held_up
  down_passes e is =
      eqb-true (participant.message_question n its s) 0
      (only (eqb (length s) 0) (eqb (sender_in s) session.initiator.0) (eqb (sender_in s) (suc k))
      (eqb (participant.message_question n its s) 0)
      (ends_search (participant.read_by n its s))
      (eqb (message_question n session.machine s) 0) (ap goes_down (sym e) ∙ is_down is))
    where
      is_down : {w : Waiting} → (w ≡ Asking) ⊎ (w ≡ Ending) → goes_down w ≡ true
      is_down (inl asks) = ap goes_down asks
      is_down (inr ends) = ap goes_down ends

      only : (none down up asked ends passes : Bool)
          → goes_down (pick none Nothing (pick down (pick asked (pick ends Ending Asking) Stray) (pick up (pick passes Report Stray) Stray))) ≡ true
          → asked ≡ true
      only true down up asked ends passes e = absurd (true≢false (sym e))
      only false true up true ends passes e = refl
      only false true up false ends passes e = absurd (true≢false (sym e))
      only false false true asked ends true e = absurd (true≢false (sym e))
      only false false true asked ends false e = absurd (true≢false (sym e))
      only false false false asked ends passes e = absurd (true≢false (sym e))

  abbrev formed : Participant → Bool
  formed t = message_formed n t.me.0 t.initiator.0 s

  -- as the participant at that place reads it
  module _ (q : Participant) (at : q ≡ its) {r : Option Message} (e : r ≡ pick (formed q) (Some (participant.read_by n q s)) None) where
    its_read : r ≡ pick (formed its) (Some (participant.read_by n its s)) None
    its_read = e ∙ ap (λ (t : Participant). pick (formed t) (Some (participant.read_by n t s)) None) at

    pub down_there : participant.message_question n its s ≡ 0 → IsSome r
    down_there passes = rw (its_read, asked_yes 13 (formed its) (then_none (ask 14 (formed its)) _ passes).0)

    pub down_read : {m : Message} → r ≡ Some m → m ≡ participant.read_by n its s
    down_read is = (found_some (formed its) _ its_read is).1

-- ---- what is handed over

module _ (tables : Tables) (session : Session) (k : ℕ) where
  pub handed_down : (s : List ℕ) {w : Waiting} {turned : Turned} → (w ≡ Asking) ⊎ (w ≡ Ending)
      → turned ≡ deliver_down tables session k s → turned ≡ deliver tables session k s w
  handed_down s (inl is) e = e ∙ ap (λ (w : Waiting). deliver tables session k s w) (sym is)
  handed_down s (inr is) e = e ∙ ap (λ (w : Waiting). deliver tables session k s w) (sym is)

  -- the part of the buffer that is handed over is the strand
  pub handed_over : (s t : List ℕ) (w : Waiting) (turned : Turned) → s ≡ t → w ≡ held tables.shape.n session k t
      → turned ≡ deliver tables session k s w → turned ≡ deliver tables session k t (held tables.shape.n session k t)
  handed_over s t w turned e f g = g ∙ (λ i. deliver tables session k (e i) (f i))

  -- a delivery leaves the session's initiator
  pub same_initiator : (s : List ℕ) (w : Waiting) → (deliver tables session k s w).session.initiator ≡ session.initiator
  unfolding deliver_down deliver_up
  same_initiator s Nothing = refl
  same_initiator s Asking = refl
  same_initiator s Ending = refl
  same_initiator s Report = refl
  same_initiator s Stray = refl
