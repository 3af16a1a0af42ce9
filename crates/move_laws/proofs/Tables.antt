-- An accepted move, from the view to the tables: those that it leaves are accepted, and their view is the planned one.
use mathlib.Core.Path.{◌≡◌}
use Prim.Native.Nat.{ℕ, ◌<◌}
use Rattle.book.specs.Bounds.{mark}
use Rattle.book.specs.Tables.{shape_of, sent_table, received_table}
use Rattle.book.specs.View.{count}
use Rattle.book.proofs.Questions.{kept_passed}
use Rattle.line_theory.specs.Sets.{View, IsBook}
use Rattle.line_theory.proofs.Accepted.{accepted_book}
use Rattle.shown.specs.Shown.{book_shown}
use Rattle.shown.specs.Statements.{ShowsBook, SameCounters}
use Rattle.shown.proofs.Theorems.{accepted_shows, shown_is_accepted, shown_is_view}
use Rattle.restart.specs.Plan.{Planned, planned, applied, moved}
use Rattle.restart.specs.Calls.{move_question, book_moved, shape_moved, sent_moved, received_moved}
use Rattle.book.specs.Accepted.{AreAccepted}
use Rattle.restart.proofs.Orders.{accepted_of}
use Rattle.move_laws.specs.Moves.{Move, IsAccepted, view_before, shape_after, sent_after, received_after, view_after, tables_after}
use Rattle.restart.proofs.Plans.{IsPlan, planned_is_plan}
use Rattle.move_laws.proofs.Views.{applied_shows}

abbrev pub plan_of_move : Move → Planned
plan_of_move m = planned (view_before m) m.purpose

abbrev view_moved : Move → View
view_moved m = moved (view_before m) m.purpose

module _ (m : Move) (accepted : IsAccepted m) where
  -- ---- before

  pub accepted_before : AreAccepted m.tables
  accepted_before = accepted_of m.tables m.purpose accepted.passed accepted.sixteen

  pub shows_before : ShowsBook (view_before m)
  shows_before = accepted_shows m.tables accepted_before

  pub book_before : IsBook mark (view_before m)
  book_before = accepted_book accepted_before

  pub move_is_plan : IsPlan (view_before m) (plan_of_move m)
  move_is_plan = planned_is_plan (view_before m) m.purpose book_before

  -- ---- after

  pub shape_after_lem : shape_after m ≡ shape_of (book_shown (view_moved m))
  unfolding shape_moved book_moved
  shape_after_lem =
      kept_passed (move_question m.tables m.purpose) m.tables.shape (shape_of (book_shown (view_moved m))) accepted.passed

  pub sent_after_lem : sent_after m ≡ sent_table (book_shown (view_moved m))
  unfolding sent_moved book_moved
  sent_after_lem =
      kept_passed (move_question m.tables m.purpose) m.tables.sent (sent_table (book_shown (view_moved m))) accepted.passed

  pub received_after_lem : received_after m ≡ received_table (book_shown (view_moved m))
  unfolding received_moved book_moved
  received_after_lem =
      kept_passed (move_question m.tables m.purpose) m.tables.received (received_table (book_shown (view_moved m)))
      accepted.passed

  shows_moved : ShowsBook (view_moved m)
  shows_moved = applied_shows (view_before m) shows_before book_before (plan_of_move m) move_is_plan

  pub accepted_after : AreAccepted (tables_after m)
  accepted_after = rw (shape_after_lem, sent_after_lem, received_after_lem) (shown_is_accepted (view_moved m) shows_moved)

  pub view_after_lem : SameCounters (view_after m) (view_moved m)
  view_after_lem = rw (shape_after_lem, sent_after_lem, received_after_lem) (shown_is_view (view_moved m) shows_moved)

  pub shows_after : ShowsBook (view_after m)
  shows_after = accepted_shows (tables_after m) accepted_after

  pub book_after : IsBook mark (view_after m)
  book_after = accepted_book accepted_after

  -- ---- of a process that there is

  pub same_size : (view_after m).n ≡ m.tables.shape.n
  unfolding applied
  same_size = view_after_lem.n

  module _ (j : ℕ) (h : j < m.tables.shape.n) where
    pub still_there : j < (view_after m).n
    still_there = rw same_size h

    pub count_after : count (shape_after m) j ≡ (plan_of_move m).kept j
    unfolding applied
    count_after = view_after_lem.count j still_there
