-- The loop of `finish`: the turns that are left lead to where all of them lead.
use mathlib.Core.Path.{◌≡◌, refl, sym, ap, subst, ◌∙◌}
use mathlib.Core.Bool.{true}
use mathlib.Core.List.{List}
use Prim.Native.Nat.{ℕ, suc, ◌+◌, ◌-◌, ◌≤◌, ◌<◌}
use native.Mathlib.Omega.{arith}
use lib.ListN.{length}
use Rattle.book.specs.declared.Process.{Process}
use Rattle.book.specs.Bounds.{most_processes}
use Rattle.book.specs.Lent.{Tables}
use Rattle.book.specs.Accepted.{AreAccepted}
use Rattle.line_theory.specs.OfTables.{view_of}
use Rattle.session.specs.declared.Session.{Session}
use Rattle.session.specs.Calls.{start_question, session_started, strands_started, turn_question}
use Rattle.session.specs.Turns.{Ongoing, started, after_turn, after_turns}
use Rattle.session_theory.proofs.Search.{Search, IsSearch}
use Rattle.session_theory.proofs.Facts.{few}
use Rattle.demand3.specs.Statement.{message_waits, most_delivered}
use Rattle.demand3.proofs.Purposes.{starts_with_room}
use Rattle.searches.specs.Lowest.{strands_inside, lowest_waiting, to_end, searched}
use Rattle.searches.specs.Search.{search_question}
use Rattle.searches.specs.Parts.{Started}
use Rattle.searches.proofs.Begin.{start_of, start_delivered, room_inside}
use Rattle.searches.proofs.Lowest.{found_some, found_none}
use Rattle.searches.proofs.Along.{Runs, few_delivered, next_runs, next_passes, next_counts, to_end_more, to_end_done}
use Rattle.searches.proofs.Theorems.{search_in, is_search_lem, begun_runs}

-- a search that no question refuses has accepted tables
pub search_accepted : (tables : Tables) (initiator : Process) (purpose : ℕ) → length tables.shape.counts ≡ most_processes
    → search_question tables initiator purpose ≡ 0 → AreAccepted tables
search_accepted tables initiator purpose long passes = (is_search_lem tables initiator purpose long passes).accepted

module _ (tables : Tables) where
  -- where all turns lead from here
  abbrev pub end_of_all : Ongoing → Ongoing
  end_of_all o = to_end tables (most_delivered (view_of tables)) o

  -- how many turns are left
  abbrev pub left_at : Session → ℕ
  left_at s = most_delivered (view_of tables) - s.delivered

  -- from o₀ on turns have led to o, and p is the next to be named
  pub record Finishing (o₀ o : Ongoing) (p : Process) : Type 0 where
    pub initiator : Process
    pub purpose : ℕ
    pub is : IsSearch (search_in tables initiator purpose)
    pub runs : Runs (search_in tables initiator purpose) o
    pub lowest : p ≡ lowest_waiting o.session
    pub rest : end_of_all o₀ ≡ to_end tables (left_at o.session) o

  pub finishing_none : (s : Session) (strands : List ℕ) (p : Process) → Started tables s strands → p ≡ lowest_waiting s
      → Finishing (record { session = s; strands = strands }) (record { session = s; strands = strands }) p
  finishing_none s strands p a e =
      let g : Search = search_in tables a.initiator a.purpose in
      let is : IsSearch g = is_search_lem tables a.initiator a.purpose a.long a.accepted in
      let left : start_of g strands_inside ≡ record { session = s; strands = strands } = rw (a.session_left, a.strands_left) refl in
      let none : s.delivered ≡ 0 =
      ap (λ (x : Session). x.delivered) a.session_left
      ∙ start_delivered g is strands_inside (room_inside tables.shape.n (few g is)) in
      record {
        initiator = a.initiator;
        purpose = a.purpose;
        is = is;
        runs =
            subst (λ (o : Ongoing). Runs g o) left
            (begun_runs tables a.initiator a.purpose a.long a.accepted);
        lowest = e;
        rest =
            let all : most_delivered (view_of tables) ≡ left_at s = omega (arith, none) in
            ap (λ (left : ℕ). to_end tables left (record { session = s; strands = strands })) all;
      }

  module _ (o₀ o : Ongoing) (p : Process) (f : Finishing o₀ o p) where
    abbrev g : Search
    g = search_in tables f.initiator f.purpose

    -- a turn more: it is counted, so that fewer are left
    module _ (some : p.0 ≡ 0 → ⊥) where
      waits : message_waits o.session ≡ true
      waits =
          let first : 1 ≤ p.0 = omega arith in
          found_some o.session (subst (λ (q : Process). 1 ≤ q.0) f.lowest first)

      -- no question refuses it
      pub turn_passes : turn_question tables o.session p o.strands ≡ 0
      turn_passes =
          subst (λ (q : Process). turn_question tables o.session q o.strands ≡ 0) (sym f.lowest)
          (next_passes g f.is o f.runs waits)

      abbrev next : Ongoing
      next = after_turn tables o p

      same_next : after_turn tables o (lowest_waiting o.session) ≡ next
      same_next = ap (λ (q : Process). after_turn tables o q) (sym f.lowest)

      counts : next.session.delivered ≡ o.session.delivered + 1
      counts = ap (λ (u : Ongoing). u.session.delivered) (sym same_next) ∙ next_counts g f.is o f.runs waits

      runs_on : Runs g next
      runs_on = subst (λ (u : Ongoing). Runs g u) same_next (next_runs g f.is o f.runs)

      finishing_less : left_at next.session < left_at o.session
      finishing_less = omega (arith, counts, few_delivered g next runs_on)

      finishing_more : (q : Process) → q ≡ lowest_waiting next.session → Finishing o₀ next q
      finishing_more q e =
          let one : left_at o.session ≡ suc (left_at next.session) = omega (arith, counts, few_delivered g next runs_on) in
          record {
            initiator = f.initiator;
            purpose = f.purpose;
            is = f.is;
            runs = runs_on;
            lowest = e;
            rest =
                f.rest
                ∙ ap (λ (left : ℕ). to_end tables left o) one
                ∙ to_end_more tables o (left_at next.session) waits
                ∙ ap (λ (u : Ongoing). to_end tables (left_at next.session) u) same_next;
          }

      -- as a call of `take_turn` leaves it
      module _
          (s : Session)
          (strands : List ℕ)
          (session_left : s ≡ next.session)
          (strands_left : strands ≡ next.strands)
        where
          pub turn_less : left_at s < left_at o.session
          turn_less = rw session_left finishing_less

          pub turn_more : (q : Process) → q ≡ lowest_waiting s → Finishing o₀ (record { session = s; strands = strands }) q
          turn_more q e = rw (session_left, strands_left) (finishing_more q (e ∙ ap lowest_waiting session_left))

    -- nothing waits any more
    pub finishing_all : p.0 ≡ 0 → end_of_all o₀ ≡ o
    finishing_all none =
        f.rest
        ∙ to_end_done tables o (left_at o.session)
        (found_none o.session (sym (ap (λ (q : Process). q.0) f.lowest) ∙ none))

-- ---- a session started inside

-- no question refuses its start
pub starts_inside : (tables : Tables) (initiator : Process) (purpose : ℕ) (bytes : List ℕ) → bytes ≡ strands_inside
    → length tables.shape.counts ≡ most_processes → search_question tables initiator purpose ≡ 0
    → start_question tables initiator purpose bytes ≡ 0
starts_inside tables initiator purpose bytes inside long accepted =
    let g : Search = search_in tables initiator purpose in
    let is : IsSearch g = is_search_lem tables initiator purpose long accepted in
    subst (λ (l : List ℕ). start_question tables initiator purpose l ≡ 0) (sym inside)
    (starts_with_room g is strands_inside (room_inside tables.shape.n (few g is)))

module _
    (tables : Tables)
    (initiator : Process)
    (purpose : ℕ)
    (bytes : List ℕ)
    (s : Session)
    (strands : List ℕ)
    (inside : bytes ≡ strands_inside)
    (session_left : s ≡ session_started tables initiator purpose bytes)
    (strands_left : strands ≡ strands_started tables initiator purpose bytes)
  where
    started_is : ◌≡◌ {A = Ongoing} (record { session = s; strands = strands }) (started tables initiator purpose strands_inside)
    started_is = rw (session_left, strands_left, inside)

    pub started_inside : length tables.shape.counts ≡ most_processes → search_question tables initiator purpose ≡ 0
        → Started tables s strands
    started_inside long accepted =
        record {
          initiator = initiator;
          purpose = purpose;
          long = long;
          accepted = accepted;
          session_left = ap (λ (o : Ongoing). o.session) started_is;
          strands_left = ap (λ (o : Ongoing). o.strands) started_is;
        }

    pub finished_inside : (r : Session) → r ≡ (end_of_all tables (record { session = s; strands = strands })).session
        → r ≡ (searched tables initiator purpose).session
    unfolding searched
    finished_inside r e = e ∙ ap (λ (o : Ongoing). (end_of_all tables o).session) started_is

    pub taken_inside : (turns : List Process) (r : Session)
        → r ≡ (after_turns tables (record { session = s; strands = strands }) turns).session
        → r ≡ (after_turns tables (started tables initiator purpose strands_inside) turns).session
    taken_inside turns r e = e ∙ ap (λ (o : Ongoing). (after_turns tables o turns).session) started_is
