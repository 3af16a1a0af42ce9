-- What a search comes to: in the session that ran everybody has ended, where it ends, and nothing waits.
use mathlib.Core.Path.{◌≡◌}
use mathlib.Core.Bool.{true}
use Prim.Native.Nat.{ℕ, ◌<◌}
use native.Mathlib.Omega.{arith}
use lib.ListN.{length}
use Rattle.book.specs.Lent.{Tables}
use Rattle.book.specs.declared.Process.{Process}
use Rattle.book.specs.Bounds.{most_processes}
use Rattle.book.specs.InTurn.{◌then◌, ask}
use Rattle.book.specs.Check.{tables_question}
use Rattle.book.proofs.Questions.{then_none, asked_yes}
use Rattle.book.specs.Names.{is_named, is_purpose}
use Rattle.session.specs.Workers.{stands_on}
use Rattle.session.specs.Turns.{Ongoing}
use Rattle.session_theory.proofs.Search.{Search, IsSearch, most}
use Rattle.session_theory.proofs.Facts.{few}
use Rattle.searches.specs.Lowest.{strands_inside, searched}
use Rattle.searches.specs.Search.{search_question, SearchEnds}
use Rattle.searches.proofs.Begin.{start_of, room_inside}
use Rattle.searches.proofs.Along.{Runs, Ended, start_runs, comes_to_end}
use Rattle.searches.proofs.Ends.{end_in, ended_there, stands_there}

abbrev pub search_in : Tables → Process → ℕ → Search
search_in t initiator purpose = record { tables = t; initiator = initiator; purpose = purpose }

-- the two questions after the tables'
pub named_purposed : (n : ℕ) (initiator : Process) (purpose : ℕ)
    → (ask 10 (is_named n initiator.0) then λ _. ask 11 (is_purpose purpose)) ≡ 0
    → (is_named n initiator.0 ≡ true) × (is_purpose purpose ≡ true)
named_purposed n initiator purpose none =
    let b = then_none (ask 10 (is_named n initiator.0)) (λ _. ask 11 (is_purpose purpose)) none in
    (asked_yes 9 (is_named n initiator.0) b.0, asked_yes 10 (is_purpose purpose) b.1)

module _
    (t : Tables)
    (initiator : Process)
    (purpose : ℕ)
    (long : length t.shape.counts ≡ most_processes)
    (accepted : search_question t initiator purpose ≡ 0)
  where
    abbrev g : Search
    g = search_in t initiator purpose

    pub is_search_lem : IsSearch g
    unfolding search_question
    is_search_lem =
        let a = then_none (tables_question t)
        (λ _. ask 10 (is_named t.shape.n initiator.0) then λ _. ask 11 (is_purpose purpose)) accepted in
        let b = named_purposed t.shape.n initiator purpose a.1 in
        record { accepted = record { sixteen = long; passed = a.0 }; named = b.0; purposed = b.1 }

    pub begun_runs : Runs g (start_of g strands_inside)
    begun_runs = start_runs g is_search_lem strands_inside (room_inside t.shape.n (few g is_search_lem))

    pub searched_ended : Ended g is_search_lem (searched t initiator purpose)
    unfolding searched
    searched_ended = comes_to_end g is_search_lem (most g) (start_of g strands_inside) begun_runs (omega arith)

    abbrev o : Ongoing
    o = searched t initiator purpose

    -- the set of checkpoints
    pub searched_stands : (j : ℕ) → j < 16 → stands_on o.session j ≡ end_in g j
    searched_stands = stands_there g is_search_lem o searched_ended.runs.holds searched_ended.silent

pub search_ends : SearchEnds
search_ends t initiator purpose long accepted =
    let all = searched_ended t initiator purpose long accepted in
    let is = is_search_lem t initiator purpose long accepted in (
      ended_there (search_in t initiator purpose) is (searched t initiator purpose)
          all.runs.holds all.silent,
      all.silent,
    )
