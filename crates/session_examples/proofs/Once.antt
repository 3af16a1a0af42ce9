-- A search computed with the questions of each turn asked once. `session_after` and `strands_after` ask them both, and question 13
-- is nearly all that a turn costs.
-- Assumes nothing.
use mathlib.Core.Path.{◌≡◌, refl, ap, ◌∙◌}
use mathlib.Core.Bool.{true, false}
use mathlib.Core.List.{List}
use Prim.Native.Nat.{ℕ, zero, suc}
use Rattle.book.specs.Lent.{Tables}
use Rattle.book.specs.declared.Process.{Process}
use Rattle.book.specs.InTurn.{unless_refused}
use Rattle.book.specs.Read.{tables_read}
use Rattle.line_theory.specs.OfTables.{view_of}
use Rattle.strands.specs.Strands.{posted}
use Rattle.session.specs.declared.Turned.{Turned}
use Rattle.session.specs.Workers.{initiator_of}
use Rattle.session.specs.Steps.{with_posted}
use Rattle.session.specs.Calls.{turned, turn_question, session_after, strands_after}
use Rattle.session.specs.Turns.{Ongoing, started}
use Rattle.demand3.specs.Statement.{message_waits, most_delivered}
use Rattle.searches.specs.Lowest.{strands_inside, lowest_waiting, to_end, searched}
use Rattle.session_examples.specs.Books.{blank}
use Rattle.session_examples.specs.Outcome.{Outcome, outcome_of, searched_in, ended_on}

module _ (t : Tables) where
  abbrev once : Ongoing → Process → Ongoing
  once o p =
      let question : ℕ = turn_question t o.session p o.strands in
      let next : Turned = turned t o.session p o.strands in
      record {
        session = unless_refused question o.session (with_posted next);
        strands =
            unless_refused question o.strands
            (posted t.shape.n (initiator_of o.session) next.outgoing o.strands);
      }

  unfoldable pub to_end_once : ℕ → Ongoing → Ongoing
  to_end_once zero o = o
  to_end_once (suc left) o =
      elim (message_waits o.session) [ true ↦ to_end_once left (once o (lowest_waiting o.session)) | false ↦ o ]

  same_end : (left : ℕ) (o : Ongoing) → to_end t left o ≡ to_end_once left o
  unfolding to_end to_end_once session_after strands_after
  same_end zero o = refl
  same_end (suc left) o =
      ap (λ (end : Ongoing). elim (message_waits o.session) [ true ↦ end | false ↦ o ])
      (same_end left (once o (lowest_waiting o.session)))

module _ (book : List ℕ) (initiator : ℕ) where
  abbrev tables : Tables
  tables = tables_read book blank blank

  abbrev start : Ongoing
  start = started tables (record { 0 = initiator }) 3 strands_inside

  abbrev pub outcome_once : Outcome
  outcome_once = outcome_of tables.shape.n (to_end_once tables (most_delivered (view_of tables)) start).session

  pub by_once : (line : List ℕ) (rounds messages : ℕ)
      → outcome_once ≡ ended_on line rounds messages → searched_in book initiator ≡ ended_on line rounds messages
  unfolding searched
  by_once line rounds messages h =
      ap (λ (o : Ongoing). outcome_of tables.shape.n o.session)
      (same_end tables (most_delivered (view_of tables)) start)
      ∙ h
