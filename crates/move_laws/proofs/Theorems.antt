-- The statements of `specs/Statements.antt` hold.
use Rattle.std.specs.Prelude.{Ok}
use mathlib.Core.Path.{◌≡◌, refl, sym, ap, ◌∙◌}
use mathlib.Core.Bool.{true}
use mathlib.Core.List.{List}
use mathlib.Core.Logic.{◌⊎◌, inl, inr}
use Prim.Native.Nat.{ℕ, ◌+◌, ◌<◌}
use native.Mathlib.Omega.{arith}
use lib.ListN.{length, get_or}
use Rattle.book.specs.Lent.{Tables}
use Rattle.book.specs.Check.{tables_question}
use Rattle.book.specs.Tables.{shape_of, sent_table, received_table}
use Rattle.book.specs.Write.{bytes_of, answer_to_write}
use Rattle.book.proofs.Questions.{kept_passed}
use Rattle.round_trips.proofs.Theorems.{written_then_read}
use Rattle.round_trips.proofs.Writing.{write_given, answer_given, bytes_left}
use Rattle.line_theory.specs.Sets.{View}
use Rattle.line_theory.specs.Search.{line}
use Rattle.line_theory.specs.OfTables.{view_of}
use Rattle.line_theory.proofs.Accepted.{accepted_book}
use Rattle.line_theory.proofs.Line.{line_absent}
use Rattle.line_theory.proofs.Theorems.{line_is_line}
use Rattle.consistency.specs.Set.{chosen}
use Rattle.finder.specs.Line.{checkpoints, no_line, line_found}
use Rattle.book.specs.Names.{is_purpose}
use Rattle.shown.specs.Shown.{book_shown}
use Rattle.shown.specs.Statements.{IsCounter, SameCounters}
use Rattle.shown.proofs.Theorems.{same_book, tables_shown}
use Rattle.restart.specs.Plan.{planned, moved}
use Rattle.restart.specs.Values.{present}
use Rattle.restart.proofs.Purposes.{three_purposes, advance_is, restart_is}
use Rattle.restart.proofs.Values.{number_none, present_all}
use Rattle.restart.proofs.Orders.{move_passes, purpose_passes}
use Rattle.restart.proofs.Orders as orders
use Rattle.move_laws.specs.Moves.{Move, IsAccepted, Advances, Restarts, view_before, view_after, order_with, with_purpose, again, tables_after}
use Rattle.move_laws.specs.Appended.{MovedBook, unmoved, advance, advanced, last_of, along}
use Rattle.move_laws.specs.Statements.{
  MovedIsAccepted,
  MovedPassesRead,
  FallsExactly,
  LineIsOldest,
  AgainIsSame,
  TheyStay,
  OneIsKept,
  NoneReceived,
  SentIsOnItsWay,
  ThreeIsOneThenTwo,
  AddsUp,
  NoneGo,
  OrderIsLine,
  OrderIsOldest,
  GoesAround,
  SameLine,
  AppendedIsAccepted,
  SameLineAlong,
  AppendedAlong,
}
use Rattle.restart.proofs.Plans.{planned_line, planned_kept}
use Rattle.move_laws.proofs.Views.{sent_back, received_back}
use Rattle.move_laws.proofs.Lines.{line_behind, moved_to_one}
use Rattle.move_laws.proofs.Chains.{
  follows_unmoved,
  advance_accepted,
  advance_behind,
  follows_advanced,
  follows_longer,
  appended_accepted,
  y_appended,
  grows_accepted,
  follows_along,
  last_accepted,
  last_size,
}
use Rattle.move_laws.proofs.Tables.{
  plan_of_move,
  accepted_before,
  shows_before,
  book_before,
  move_is_plan,
  shape_after_lem,
  sent_after_lem,
  received_after_lem,
  accepted_after,
  view_after_lem,
  shows_after,
  book_after,
  same_size,
  still_there,
  count_after,
}

-- ---- the restart order

pub adds_up : AddsUp
adds_up m j accepted h =
    rw (orders.before_at m.tables m.purpose accepted.passed j h, orders.after_at m.tables m.purpose accepted.passed j h, count_after m accepted j h) ((move_is_plan m accepted).adds_up j h)

pub none_go : NoneGo
unfolding planned
none_go m j accepted = (
  λ e. rw (orders.order_after m.tables m.purpose accepted.passed) (number_none m.tables.shape.n (plan_of_move m).after j (rw e)),
  λ e. rw (orders.order_before m.tables m.purpose accepted.passed) (number_none m.tables.shape.n (plan_of_move m).before j (rw e)),
)

pub order_is_line : OrderIsLine
unfolding line_found
order_is_line m accepted yes' =
    let v : View = view_before m in
    orders.order_from m.tables m.purpose accepted.passed
    ∙ ap (λ (c : ℕ → ℕ). checkpoints (present m.tables.shape.n c)) (planned_line v m.purpose (advance_is m.purpose yes'))
    ∙ ap checkpoints (present_all m.tables.shape.n (line v) (line_absent v))
    ∙ sym (kept_passed (tables_question m.tables) no_line (checkpoints (line v)) (accepted_before m accepted).passed)

pub order_is_oldest : OrderIsOldest
unfolding planned
order_is_oldest m accepted two = orders.order_from m.tables m.purpose accepted.passed ∙ rw two

pub goes_around : GoesAround
goes_around m j accepted h =
    let from = orders.from_at m.tables m.purpose accepted.passed j h in
    let before = orders.before_at m.tables m.purpose accepted.passed j h in
    let after = orders.after_at m.tables m.purpose accepted.passed j h in
    let plan = move_is_plan m accepted in (
      rw (from, before) (plan.before j h),
      λ yes'.
          let one = planned_kept (view_before m) m.purpose j (restart_is m.purpose yes') in
          rw (from, after) (omega (arith, plan.before j h, plan.adds_up j h, one)),
    )

-- ---- the moved book

pub moved_is_accepted : MovedIsAccepted
moved_is_accepted m accepted = (accepted_after m accepted, same_size m accepted)

-- written to a buffer that they just fit, and read again
pub moved_passes_read : MovedPassesRead
moved_passes_read m into into' accepted l l' =
    let t : Tables = tables_after m in
    let bytes : List ℕ = bytes_of t in
    let given : answer_to_write t bytes ≡ Ok (length bytes)
    = answer_given t bytes (write_given t bytes (accepted_after m accepted).passed (omega arith)) in
    rw (bytes_left t bytes (length bytes) given) at
    (written_then_read t bytes into into' (length bytes) (accepted_after m accepted).sixteen l l' given)

pub falls_exactly : FallsExactly
unfolding planned
falls_exactly m j r p accepted at =
    let h : j < m.tables.shape.n = rw (same_size m accepted) at at.process in
    rw (orders.before_at m.tables m.purpose accepted.passed j h) (
      sent_back (view_before m) (shows_before m accepted) (book_before m accepted) (plan_of_move m) (move_is_plan m accepted) (view_after m)
          (view_after_lem m accepted) (book_after m accepted) j r p at,
      received_back (view_before m) (shows_before m accepted) (book_before m accepted) (plan_of_move m) (move_is_plan m accepted) (view_after m)
          (view_after_lem m accepted) (book_after m accepted) j r p at,
    )

-- a counter of the oldest checkpoint
oldest_counter : (m : Move) (accepted : IsAccepted m) (j p : ℕ) → j < m.tables.shape.n → p < m.tables.shape.n → IsCounter (view_after m) j 1 p
oldest_counter m accepted j p h o = record {
  process = still_there m accepted j h;
  first = omega arith;
  last = (book_after m accepted).some j (still_there m accepted j h);
  partner = still_there m accepted p o;
}

pub one_is_kept : OneIsKept
one_is_kept m j accepted yes' h =
    count_after m accepted j h ∙ planned_kept (view_before m) m.purpose j (restart_is m.purpose yes')

pub they_stay : TheyStay
they_stay m a b accepted two h o = (shows_before m accepted).oldest_received b a o h

-- where only one is kept, the line is that one
kept_is_line : (m : Move) (j : ℕ) (accepted : IsAccepted m) → Restarts m → j < m.tables.shape.n → line (view_after m) j ≡ 1
kept_is_line m j accepted yes' h =
    let there = (line_is_line _ (view_after m) (book_after m accepted)).is_set in
    let h' = still_there m accepted j h in
    omega (arith, there.some j h', there.among j h', one_is_kept m j accepted yes' h)

-- what lies behind the whole book has its line, and before that all but the line's went
advanced_is_line : (m : Move) (j : ℕ) (accepted : IsAccepted m) → m.purpose ≡ 1 → j < m.tables.shape.n → line (view_after m) j ≡ 1
advanced_is_line m j accepted one h =
    let before = accepted_before m accepted in
    let m' : Move = advance m.tables in
    let accepted' : IsAccepted m' = advance_accepted m.tables before in
    let same : line (view_after m) j ≡ line (view_after m') j = ap (λ (purpose : ℕ). line (view_after (with_purpose m purpose)) j) one in
    let behind = line_behind (view_before m) (view_after m') _ _ (advance_behind m.tables before) (book_before m accepted) (book_after m' accepted') j h in
    let found : chosen (order_with m').from j ≡ line (view_before m) j
    = orders.from_at m.tables 1 accepted'.passed j h ∙ ap (λ (c : ℕ → ℕ). c j) (planned_line (view_before m) 1 refl) in
    same ∙ omega (arith, behind, (goes_around m' j accepted' h).0, found)

pub line_is_oldest : LineIsOldest
line_is_oldest m j accepted h = go (three_purposes m.purpose (purpose_passes m.tables m.purpose accepted.passed))
  where
    go : (m.purpose ≡ 2) ⊎ Advances m → line (view_after m) j ≡ 1
    go (inl two) = kept_is_line m j accepted (inl two) h
    go (inr (inl one)) = advanced_is_line m j accepted one h
    go (inr (inr three)) = kept_is_line m j accepted (inr three) h

again_accepted : (m : Move) (purpose : ℕ) → IsAccepted m → is_purpose purpose ≡ true → IsAccepted (again m purpose)
again_accepted m purpose accepted is = record {
  sixteen = (accepted_after m accepted).sixteen;
  passed = move_passes (tables_after m) purpose (accepted_after m accepted).passed is;
}

pub again_is_same : AgainIsSame
again_is_same m accepted =
    let w : View = view_after m in
    let accepted' : IsAccepted (again m 1) = again_accepted m 1 accepted refl in
    let one : (j : ℕ) → j < w.n → line w j ≡ 1 = λ j h. line_is_oldest m j accepted (rw (same_size m accepted) at h) in
    let same : book_shown (moved w 1) ≡ book_shown w = same_book (moved w 1) w (moved_to_one w (shows_after m accepted) one) in
    let held = tables_shown (tables_after m) (accepted_after m accepted) in (
      accepted',
      shape_after_lem (again m 1) accepted' ∙ ap shape_of same ∙ held.0,
      sent_after_lem (again m 1) accepted' ∙ ap sent_table same ∙ held.1,
      received_after_lem (again m 1) accepted' ∙ ap received_table same ∙ held.2,
    )

pub none_received : NoneReceived
none_received m j p accepted h o = (shows_after m accepted).oldest_received j p (still_there m accepted j h) (still_there m accepted p o)

pub sent_is_on_its_way : SentIsOnItsWay
unfolding planned
sent_is_on_its_way m j p accepted h o =
    let from : (i : ℕ) → i < m.tables.shape.n → chosen (order_with m).from i ≡ (plan_of_move m).line i
    = orders.from_at m.tables m.purpose accepted.passed in
    rw (from p o)
    (rw (goes_around m j accepted h).0 at (falls_exactly m j 1 p accepted (oldest_counter m accepted j p h o)).0)

-- purpose 3 and then nothing, or 1 and then 2: the one checkpoint that is left has sent what was on its way, and received nothing
module _ (m : Move) (accepted : IsAccepted m) (three : m.purpose ≡ 3) where
  abbrev first : Move
  first = with_purpose m 1

  accepted_first : IsAccepted first
  accepted_first = advance_accepted m.tables (accepted_before m accepted)

  abbrev both : Move
  both = again first 2

  accepted_both : IsAccepted both
  accepted_both = again_accepted first 2 accepted_first refl

  here : (j : ℕ) → j < (view_after m).n → j < m.tables.shape.n
  here j h = rw (same_size m accepted) at h

  there : (j : ℕ) → j < (view_after m).n → j < both.tables.shape.n
  there j h = rw (same_size first accepted_first) (here j h)

  same_order : (order_with m).from ≡ (order_with first).from
  same_order = order_is_line m accepted (inr three) ∙ sym (order_is_line first accepted_first (inl refl))

  same_sent : (j p : ℕ) → j < (view_after m).n → p < (view_after m).n → (view_after m).S j 1 p ≡ (view_after both).S j 1 p
  same_sent j p h o =
      let once = rw same_order at (sent_is_on_its_way m j p accepted (here j h) (here p o)) in
      let now = sent_is_on_its_way first j p accepted_first (here j h) (here p o) in
      let none : get_or (order_with both).before j 0 + 1 ≡ 1 = omega (arith, (none_go both j accepted_both).1 refl) in
      let stayed = rw none at (falls_exactly both j 1 p accepted_both (oldest_counter both accepted_both j p (there j h) (there p o))).0 in
      omega (arith, once, now, stayed, they_stay both j p accepted_both refl (there j h) (there p o))

  same_received : (j p : ℕ) → j < (view_after m).n → p < (view_after m).n → (view_after m).R j 1 p ≡ (view_after both).R j 1 p
  same_received j p h o =
      none_received m j p accepted (here j h) (here p o) ∙ sym (none_received both j p accepted_both (there j h) (there p o))

  same_counters : SameCounters (view_after m) (view_after both)
  same_counters = record {
    n = same_size m accepted ∙ sym (same_size both accepted_both ∙ same_size first accepted_first);
    count = λ j h. one_is_kept m j accepted (inr three) (here j h) ∙ sym (one_is_kept both j accepted_both (inl refl) (there j h));
    S = λ j k p at other.
        only ((view_after m).S j) ((view_after both).S j) k p (one j k p at) (same_sent j p at.process at.partner);
    R = λ j k p at other.
        only ((view_after m).R j) ((view_after both).R j) k p (one j k p at) (same_received j p at.process at.partner);
  }
    where
      one : (j k p : ℕ) → IsCounter (view_after m) j k p → k ≡ 1
      one j k p at = omega (arith, at.first, at.last, one_is_kept m j accepted (inr three) (here j at.process))

      only : (f g : ℕ → ℕ → ℕ) (k p : ℕ) → k ≡ 1 → f 1 p ≡ g 1 p → f k p ≡ g k p
      only f g k p e same = rw e same

pub three_is_one_then_two : ThreeIsOneThenTwo
three_is_one_then_two m accepted three =
    let same = same_book (view_after m) (view_after (both m accepted three)) (same_counters m accepted three) in
    let held = tables_shown (tables_after m) (accepted_after m accepted) in
    let held' = tables_shown (tables_after (both m accepted three)) (accepted_after (both m accepted three) (accepted_both m accepted three)) in (
      sym held.0 ∙ ap shape_of same ∙ held'.0,
      sym held.1 ∙ ap sent_table same ∙ held'.1,
      sym held.2 ∙ ap received_table same ∙ held'.2,
    )

-- ---- messages on their way when the line moves

pub same_line : SameLine
same_line tables whole longer are grown is are' are'' j h =
    let follows = follows_advanced tables (unmoved tables) (follows_unmoved tables are) in
    line_behind (view_of whole) (view_of longer) _ _ (follows_longer tables (advanced (unmoved tables)) follows whole are' grown (view_of longer) is)
    (accepted_book are') (accepted_book are'') j (rw grown.n h)

pub appended_is_accepted : AppendedIsAccepted
appended_is_accepted tables whole are longer are' =
    let k : MovedBook = advanced (unmoved tables) in
    let follows = follows_advanced tables (unmoved tables) (follows_unmoved tables are) in
    (appended_accepted tables k follows whole are' longer, y_appended tables k follows whole are' longer)

pub same_line_along : SameLineAlong
same_line_along tables books grows =
    let follows = follows_along books tables (unmoved tables) (follows_unmoved tables (grows_accepted books tables grows)) grows in (
      follows.kept,
      λ j h.
          line_behind (view_of (last_of tables books)) (view_of (along (unmoved tables) books).tables) _ _ follows.behind
          (accepted_book (last_accepted books tables grows)) (accepted_book follows.kept) j (rw (last_size books tables grows) h),
    )

pub appended_along : AppendedAlong
appended_along tables next books grows longer are =
    let k : MovedBook = along (unmoved tables) books in
    let follows = follows_along books tables (unmoved tables) (follows_unmoved tables (grows_accepted books tables grows)) grows in
    let follows' = follows_advanced (last_of tables books) k follows in (
      appended_accepted (last_of tables books) (advanced k) follows' next are longer,
      y_appended (last_of tables books) (advanced k) follows' next are longer,
    )
