-- What `search` answers.
use mathlib.Core.Path.{◌≡◌, sym, ap, subst, ◌∙◌}
use mathlib.Core.List.{List}
use Prim.Native.Nat.{ℕ, ◌-◌, ◌≤◌}
use lib.ListN.{length}
use Rattle.book.specs.Lent.{Tables}
use Rattle.book.specs.declared.Question.{Question}
use Rattle.book.specs.declared.Process.{Process}
use Rattle.book.specs.declared.Checkpoint.{Checkpoint}
use Rattle.book.specs.Bounds.{most_processes}
use Rattle.book.specs.View.{count}
use Rattle.book.specs.InTurn.{◌then◌, ask}
use Rattle.book.specs.Numbers.{number}
use Rattle.book.specs.Check.{tables_question}
use Rattle.book.proofs.Questions.{then_passed, then_refused, kept_passed}
use Rattle.lists.specs.Over.{sum_to}
use Rattle.line_theory.specs.Sets.{newer_than}
use Rattle.consistency.specs.Set.{chosen}
use Rattle.finder.specs.Line.{checkpoints, no_line}
use Rattle.turns.proofs.Answers.{no_pass}
use Rattle.book.specs.Names.{is_named, is_purpose}
use Rattle.session.specs.declared.Session.{Session}
use Rattle.session.specs.Workers.{stands_on}
use Rattle.session.specs.Turns.{Ongoing}
use Rattle.session_theory.proofs.Search.{Search, view_in}
use Rattle.session_theory.proofs.Invariant.{Placed}
use Rattle.session_theory.proofs.Facts.{initiator_some}
use Rattle.demand3.proofs.Kept.{placed_in}
use Rattle.demand3.proofs.Purposes.{InSession, kept_in}
use Rattle.searches.specs.Lowest.{searched}
use Rattle.finder.proofs.Sixteen.{checkpoints_same}
use Rattle.searches.specs.declared.SearchEnd.{SearchEnd}
use Rattle.searches.specs.Search.{search_question, set_searched, newer_searched, rounds_searched, messages_searched, search_end}
use Rattle.searches.specs.Parts.{Among}
use Rattle.searches.proofs.Ends.{end_in}
use Rattle.searches.proofs.Theorems.{search_in, is_search_lem, searched_ended, searched_stands}
use Rattle.searches.proofs.Sets.{end_is_among, end_passed}

module _ (tables : Tables) (initiator : Process) (purpose : ℕ) where
  abbrev question : ℕ
  question = search_question tables initiator purpose

  abbrev of_tables : ℕ
  of_tables = tables_question tables

  abbrev begins : ℕ
  begins = ask 10 (is_named tables.shape.n initiator.0) then λ _. ask 11 (is_purpose purpose)

  -- ---- the questions

  pub tables_refuse : (e : Question) → of_tables ≡ number e → question ≡ number e
  unfolding search_question
  tables_refuse e h = then_refused of_tables (λ _. begins) (no_pass e of_tables h) ∙ h

  pub tables_pass : of_tables ≡ 0 → question ≡ begins
  unfolding search_question
  tables_pass none = then_passed of_tables (λ _. begins) none

  -- ---- where it is accepted

  module _ (long : length tables.shape.counts ≡ most_processes) (accepted : question ≡ 0) where
    abbrev g : Search
    g = search_in tables initiator purpose

    abbrev o : Ongoing
    o = searched tables initiator purpose

    pub searched_leader : (s : Session) → s ≡ o.session → 1 ≤ s.initiator.0
    searched_leader s same =
        let is = is_search_lem tables initiator purpose long accepted in
        let placed : Placed g o.session =
        placed_in g is (InSession g) (kept_in g is) o
        (searched_ended tables initiator purpose long accepted).runs.holds in
        let leader : s.initiator ≡ initiator = ap (λ (t : Session). t.initiator) same ∙ placed.leader in
        subst (λ (p : Process). 1 ≤ p.0) (sym leader) (initiator_some g is)

    -- the set of checkpoints
    searched_set : checkpoints (stands_on o.session) ≡ checkpoints (end_in g)
    searched_set =
        checkpoints_same (stands_on o.session) (end_in g)
        (searched_stands tables initiator purpose long accepted)

    module _ (s : Session) (set : List Checkpoint) (same : s ≡ o.session) (stands : set ≡ checkpoints (stands_on s)) where
      set_is : set ≡ checkpoints (end_in g)
      set_is = stands ∙ ap (λ (t : Session). checkpoints (stands_on t)) same ∙ searched_set

      pub set_among : Among tables.shape set
      set_among =
          subst (λ (l : List Checkpoint). Among tables.shape l) (sym set_is)
          (end_is_among g (is_search_lem tables initiator purpose long accepted))

      pub search_accepted : (newer : ℕ) → newer ≡ sum_to tables.shape.n (λ j. count tables.shape j - chosen set j)
          → ◌≡◌ {A = SearchEnd} (record { set = set; newer = newer; rounds = s.machine.rounds; messages = s.delivered })
          (search_end tables initiator purpose)
      unfolding set_searched newer_searched rounds_searched messages_searched
      search_accepted newer e =
          let of_set : set ≡ set_searched tables initiator purpose =
          set_is ∙ sym (kept_passed question no_line (checkpoints (end_in g)) accepted) in
          let of_newer : newer ≡ newer_searched tables initiator purpose =
          e
          ∙ ap (λ (l : List Checkpoint). sum_to tables.shape.n (λ j. count tables.shape j - chosen l j)) set_is
          ∙ end_passed g (is_search_lem tables initiator purpose long accepted)
          ∙ sym (kept_passed question 0 (newer_than (view_in g) (end_in g)) accepted) in
          let of_rounds : s.machine.rounds ≡ rounds_searched tables initiator purpose =
          ap (λ (t : Session). t.machine.rounds) same ∙ sym (kept_passed question 0 o.session.machine.rounds accepted) in
          let of_messages : s.delivered ≡ messages_searched tables initiator purpose =
          ap (λ (t : Session). t.delivered) same ∙ sym (kept_passed question 0 o.session.delivered accepted) in
          λ i. record { set = of_set i; newer = of_newer i; rounds = of_rounds i; messages = of_messages i }
