-- Search and move belong together.
use mathlib.Core.Path.{◌≡◌, sym, ap, ◌∙◌}
use mathlib.Core.Bool.{true}
use mathlib.Core.List.{List}
use mathlib.Core.Logic.{◌⊎◌, inl, inr}
use Prim.Native.Nat.{ℕ, ◌<◌}
use Rattle.book.specs.declared.Process.{Process}
use Rattle.book.proofs.Questions.{kept_passed}
use Rattle.line_theory.specs.Sets.{View}
use Rattle.line_theory.specs.Search.{line}
use Rattle.line_theory.specs.OfTables.{view_of}
use Rattle.line_theory.proofs.Line.{line_absent}
use Rattle.consistency.specs.Set.{chosen}
use Rattle.finder.specs.Line.{checkpoints, no_line}
use Rattle.book.specs.Names.{is_purpose}
use Rattle.session.specs.Workers.{stands_on, has_ended}
use Rattle.demand3.specs.Statement.{Beginning, shape_left, view_left, IsAccepted, after, tables_left}
use Rattle.demand3.proofs.Start as start
use Rattle.demand3.proofs.Theorems.{demand_3, restart_ends}
use Rattle.restart.specs.Plan.{line_checkpoint, planned}
use Rattle.restart.specs.Values.{present}
use Rattle.restart.proofs.Purposes.{three_purposes, advance_is}
use Rattle.restart.proofs.Values.{present_all}
use Rattle.restart.proofs.Orders.{move_passes, order_from, from_at}
use Rattle.searches.specs.Search.{search_question, set_searched, end_of}
use Rattle.searches.proofs.Theorems as searches
use Rattle.search_and_move.specs.Statements.{order_in, EndedStandOnOrder, RestartedStandOnOldest, SearchedIsOrder}

module _ (b : Beginning) (a : IsAccepted b) (turns : List Process) (j : ℕ) (small : j < (shape_left b).n) where
  -- its checkpoint in the order
  abbrev named : ℕ
  named = chosen (order_in b).from j

  on_line : named ≡ line_checkpoint (view_left b) b.purpose j
  unfolding planned
  on_line =
      let is = start.is_search_lem b a in
      let passed = move_passes (tables_left b) b.purpose is.accepted.passed is.purposed in
      from_at (tables_left b) b.purpose passed j small

  oldest : b.purpose ≡ 2 → named ≡ 1
  oldest two = on_line ∙ rw two

  module _ (ended : has_ended (after b turns).session j ≡ true) where
    abbrev stands : ℕ
    stands = stands_on (after b turns).session j

    restarted : b.purpose ≡ 2 → stands ≡ 1
    restarted two = (restart_ends b a two turns).on_oldest j small ended

    searched : (b.purpose ≡ 1) ⊎ (b.purpose ≡ 3) → stands ≡ named
    searched searching =
        (demand_3 b a searching turns).ended_on_line j small ended ∙ sym (rw (advance_is b.purpose searching) at on_line)

    on_order : (b.purpose ≡ 2) ⊎ ((b.purpose ≡ 1) ⊎ (b.purpose ≡ 3)) → stands ≡ named
    on_order (inl two) = restarted two ∙ sym (oldest two)
    on_order (inr searching) = searched searching

pub ended_stand_on_order : EndedStandOnOrder
ended_stand_on_order b a turns j small ended =
    on_order b a turns j small ended (three_purposes b.purpose (start.is_search_lem b a).purposed)

pub restarted_stand_on_oldest : RestartedStandOnOldest
restarted_stand_on_oldest b a two turns j small ended = (restarted b a turns j small ended two, oldest b a turns j small two)

-- where a search ends is the line checkpoint
end_is_line : (v : View) (purpose : ℕ) → is_purpose purpose ≡ true → end_of v purpose ≡ present v.n (line_checkpoint v purpose)
end_is_line v purpose is = go (three_purposes purpose is)
  where
    go : (purpose ≡ 2) ⊎ ((purpose ≡ 1) ⊎ (purpose ≡ 3)) → end_of v purpose ≡ present v.n (line_checkpoint v purpose)
    go (inl two) = rw two
    go (inr (inl one)) = rw one (sym (present_all v.n (line v) (line_absent v)))
    go (inr (inr three)) = rw three (sym (present_all v.n (line v) (line_absent v)))

pub searched_is_order : SearchedIsOrder
unfolding set_searched planned
searched_is_order t initiator purpose long accepted =
    let is = searches.is_search_lem t initiator purpose long accepted in
    let v : View = view_of t in
    kept_passed (search_question t initiator purpose) no_line (checkpoints (end_of v purpose)) accepted
    ∙ ap checkpoints (end_is_line v purpose is.purposed)
    ∙ sym (order_from t purpose (move_passes t purpose is.accepted.passed is.purposed))
