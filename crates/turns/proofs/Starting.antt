-- The questions of a start, and what it hands back.
use mathlib.Core.Path.{◌≡◌, sym, ap, subst, ◌∙◌}
use mathlib.Core.List.{List}
use Prim.Native.Nat.{ℕ, ◌-◌, ◌≤◌}
use Rattle.book.specs.Lent.{Tables}
use Rattle.std.specs.Prelude.{Result}
use Rattle.book.specs.declared.Question.{Question}
use Rattle.book.specs.declared.Process.{Process}
use Rattle.book.specs.InTurn.{◌then◌, ask, answer_with}
use Rattle.book.specs.Numbers.{number, by_number}
use Rattle.book.specs.Check.{tables_question}
use mathlib.Core.Bool.{true}
use Rattle.book.proofs.Questions.{then_none, asked_yes, kept_passed}
use Rattle.book.specs.Names.{is_named, is_purpose}
use Rattle.book.proofs.Names.{named_in}
use Rattle.strands.specs.Strands.{have_room, posted}
use Rattle.session.specs.declared.Session.{Session}
use Rattle.session.specs.declared.Turned.{Turned}
use Rattle.session.specs.Steps.{begun, with_posted}
use Rattle.session.specs.Calls.{start_question, no_session, session_started, strands_started}
use Rattle.turns.specs.Parts.{room_asked, strands_with}
use Rattle.turns.proofs.Answers.{two_then, at_first, at_second, at_last, no_pass, kept, answered, Handed, handed_by}

module _ (tables : Tables) (initiator : Process) (purpose : ℕ) (strands : List ℕ) where
  abbrev of_tables : ℕ
  of_tables = tables_question tables

  abbrev pub named : ℕ
  named = ask 10 (is_named tables.shape.n initiator.0) then λ _. ask 11 (is_purpose purpose)

  abbrev pub first : Turned
  first = begun tables initiator purpose

  abbrev room : ℕ
  room = ask 17 (have_room tables.shape.n (initiator.0 - 1) first.outgoing strands)

  abbrev asked : ℕ
  asked = start_question tables initiator purpose strands

  abbrev written : List ℕ
  written = posted tables.shape.n (initiator.0 - 1) first.outgoing strands

  by_parts : asked ≡ (of_tables then λ _. named then λ _. room)
  unfolding start_question
  by_parts =
      ap (λ (q : ℕ). of_tables then λ _. q)
      (sym (two_then (ask 10 (is_named tables.shape.n initiator.0)) (ask 11 (is_purpose purpose)) room))

  -- a question that fails
  pub start_tables : (e : Question) → of_tables ≡ number e → asked ≡ number e
  start_tables e h = by_parts ∙ at_first of_tables named room (no_pass e of_tables h) ∙ h

  module _ (passed : of_tables ≡ 0) where
    pub start_named : (e : Question) → named ≡ number e → asked ≡ number e
    start_named e h = by_parts ∙ at_second of_tables named room passed (no_pass e named h) ∙ h

    -- the invitations are put on the strands if there is room
    pub start_posted : named ≡ 0 → (turned : Turned) → turned ≡ first → (answer : Result Session Question) (bytes : List ℕ)
        → Handed (room_asked tables.shape.n turned strands) (with_posted turned) strands (strands_with tables.shape.n turned strands) answer bytes
        → (by_number answer ≡ answer_with asked (session_started tables initiator purpose strands))
        × (bytes ≡ strands_started tables initiator purpose strands)
    unfolding begun session_started strands_started
    start_posted h turned e answer bytes done =
        let whole =
        handed_by asked room (with_posted first) strands written answer bytes (by_parts ∙ at_last of_tables named room passed h)
        (subst
        (λ (t : Turned).
        Handed (room_asked tables.shape.n t strands) (with_posted t) strands (strands_with tables.shape.n t strands) answer bytes)
        e done) in
        (whole.0 ∙ answered asked no_session (with_posted first), whole.1)

  pub start_kept : (e : Question) → asked ≡ number e → strands ≡ strands_started tables initiator purpose strands
  unfolding strands_started
  start_kept e h = kept e asked strands written h

  -- the initiator is a process that there is, and stays the session's
  pub start_there : named ≡ 0 → (1 ≤ initiator.0) × (initiator.0 ≤ tables.shape.n)
  start_there h =
      named_in tables.shape.n initiator.0
      (asked_yes 9 (is_named tables.shape.n initiator.0) (then_none (ask 10 (is_named tables.shape.n initiator.0)) (λ _. ask 11 (is_purpose purpose)) h).0)

  pub start_initiator : (turned : Turned) → turned ≡ first → 1 ≤ initiator.0 → 1 ≤ turned.session.initiator.0
  unfolding begun
  start_initiator turned e h = subst (λ (t : Turned). 1 ≤ t.session.initiator.0) (sym e) h

  -- a start that no question refuses
  module _ (none : asked ≡ 0) where
    parts_none : (of_tables ≡ 0) × ((named then λ _. room) ≡ 0)
    parts_none = then_none of_tables (λ _. named then λ _. room) (sym by_parts ∙ none)

    pub tables_none : of_tables ≡ 0
    tables_none = parts_none.0

    pub named_none : named ≡ 0
    named_none = (then_none named (λ _. room) parts_none.1).0

    module _ (turned : Turned) (e : turned ≡ first) where
      pub started_room : have_room tables.shape.n (turned.session.initiator.0 - 1) turned.outgoing strands ≡ true
      unfolding begun
      started_room =
          ap (λ (t : Turned). have_room tables.shape.n (t.session.initiator.0 - 1) t.outgoing strands) e
          ∙ asked_yes 16 (have_room tables.shape.n (initiator.0 - 1) first.outgoing strands) (then_none named (λ _. room) parts_none.1).1

      pub started_taken : (after : Session) (bytes : List ℕ) → after ≡ with_posted turned → bytes ≡ strands_with tables.shape.n turned strands
          → (after ≡ session_started tables initiator purpose strands)
          × (bytes ≡ strands_started tables initiator purpose strands)
      unfolding begun session_started strands_started
      started_taken after bytes f g = (
        f ∙ ap with_posted e ∙ sym (kept_passed asked no_session (with_posted first) none),
        g ∙ ap (λ (t : Turned). strands_with tables.shape.n t strands) e ∙ sym (kept_passed asked strands written none),
      )
