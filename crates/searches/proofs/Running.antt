-- The loop of `take_turns`, and what `run` answers.
use mathlib.Core.Path.{◌≡◌, refl, sym, ap, ◌∙◌}
use mathlib.Core.Bool.{true}
use mathlib.Core.List.{List, ◌∷◌}
use Prim.Native.Nat.{ℕ, suc, ◌+◌, ◌≤◌, ◌<◌}
use native.Mathlib.Numerals.{add-one}
use native.Mathlib.Omega.{arith}
use lib.ListN.{length, drop, get_or, drop_of_length-le}
use lib.Seq.{drop-cons}
use Rattle.book.specs.Lent.{Tables, lent}
use Rattle.std.specs.Prelude.{Result, Err}
use Rattle.book.specs.declared.Question.{Question}
use Rattle.book.specs.declared.Shape.{Shape}
use Rattle.book.specs.declared.Process.{Process}
use Rattle.book.specs.InTurn.{◌then◌, ask, answer_with}
use Rattle.book.specs.Numbers.{number, by_number}
use Rattle.book.specs.Read.{book_read, no_shape, read_question, shape_read, sent_read, received_read}
use Rattle.book.specs.Tables.{shape_of, sent_table, received_table}
use Rattle.book.proofs.Questions.{then_none, then_passed, then_refused, kept_passed, kept_refused}
use Rattle.book.proofs.Refusals.{is_refused}
use Rattle.book.specs.Names.{is_named, is_purpose}
use Rattle.session.specs.declared.Session.{Session}
use Rattle.session.specs.Calls.{start_question, no_session, session_started, turn_question, session_after}
use Rattle.session.specs.Turns.{Ongoing, started, after_turn, after_turns}
use Rattle.session_theory.proofs.Search.{Search, IsSearch}
use Rattle.session_theory.proofs.Facts.{few}
use Rattle.turns.proofs.Answers.{no_pass, kept}
use Rattle.demand3.specs.Statement.{Beginning, shape_left, IsAccepted, Searches, after, HoldsAfter}
use Rattle.demand3.proofs.Start.{search_of, read_search}
use Rattle.demand3.proofs.Theorems.{demand_3, start_has_room}
use Rattle.searches.specs.Lowest.{strands_inside}
use Rattle.searches.specs.declared.RunEnd.{RunEnd}
use Rattle.searches.specs.Run.{as_processes, run_question, beginning, shape_run, sent_run, received_run, session_run, run_end, CarriesDemand3}
use Rattle.searches.proofs.Begin.{room_inside}
use Rattle.searches.proofs.Theorems.{named_purposed}

-- ---- a list of turns

module _ (t : Tables) where
  -- a turn that is refused leaves the session, and where a start is there is none
  pub turn_refused : (o : Ongoing) (p : Process) {r : Result Session Question} {e : Question}
      → by_number r ≡ answer_with (turn_question t o.session p o.strands) (session_after t o.session p o.strands) → r ≡ Err e
      → o.session ≡ session_after t o.session p o.strands
  unfolding session_after
  turn_refused o p h was = sym (kept_refused (turn_question t o.session p o.strands) o.session _ (is_refused _ _ h was))

  pub start_refused : (initiator : Process) (purpose : ℕ) (strands : List ℕ) {r : Result Session Question} {e : Question}
      → by_number r ≡ answer_with (start_question t initiator purpose strands) (session_started t initiator purpose strands) → r ≡ Err e
      → no_session ≡ session_started t initiator purpose strands
  unfolding session_started
  start_refused initiator purpose strands h was =
      sym (kept_refused (start_question t initiator purpose strands) no_session _ (is_refused _ _ h was))

  -- from o₀ on the first i turns have led to o
  pub record Taken (o₀ o : Ongoing) (list : List ℕ) (i : ℕ) : Type 0 where
    pub within : i ≤ length list
    pub rest : after_turns t o₀ (as_processes list) ≡ after_turns t o (as_processes (drop i list))

  pub taken_none : (o₀ : Ongoing) (list : List ℕ) → Taken o₀ o₀ list 0
  taken_none o₀ list = record { within = omega arith; rest = refl }

  module _ (o₀ o : Ongoing) (list : List ℕ) (i : ℕ) (taken : Taken o₀ o list i) where
    taken_more : i < length list → Taken o₀ (after_turn t o (record { 0 = get_or list i 0 })) list (i + 1)
    unfolding as_processes after_turns
    taken_more more =
        let next : drop i list ≡ get_or list i 0 ∷ drop (suc i) list = drop-cons list i 0 more in
        record {
          within = omega arith;
          rest =
              rw (add-one i)
              (taken.rest ∙ ap (λ (turns : List ℕ). after_turns t o (as_processes turns)) next);
        }

    -- as a call of `turn` leaves it
    pub turn_taken : (p : ℕ) (s : Session) (strands : List ℕ) → i < length list → p ≡ get_or list i 0
        → s ≡ (after_turn t o (record { 0 = p })).session → strands ≡ (after_turn t o (record { 0 = p })).strands
        → Taken o₀ (record { session = s; strands = strands }) list (i + 1)
    turn_taken p s strands more e session_left strands_left = rw (session_left, strands_left, e) (taken_more more)

    pub taken_all : length list ≤ i → after_turns t o₀ (as_processes list) ≡ o
    unfolding as_processes after_turns
    taken_all all =
        taken.rest
        ∙ ap (λ (turns : List ℕ). after_turns t o (as_processes turns)) (drop_of_length-le list {i = i} all)

-- ---- demand 3

module _
    (bytes sent received : List ℕ)
    (initiator : Process)
    (purpose : ℕ)
    (accepted : run_question bytes sent received initiator purpose ≡ 0)
  where
    abbrev b : Beginning
    b = beginning bytes sent received initiator purpose

    abbrev g : Search
    g = search_of b

    abbrev later : Unit {0} → ℕ
    later _ = ask 10 (is_named (shape_left b).n initiator.0) then λ _. ask 11 (is_purpose purpose)

    run_read : read_question bytes sent received ≡ 0
    unfolding run_question
    run_read = (then_none (read_question bytes sent received) later accepted).0

    run_asked : (is_named (shape_left b).n initiator.0 ≡ true) × (is_purpose purpose ≡ true)
    unfolding run_question
    run_asked =
        named_purposed (shape_left b).n initiator purpose (then_none (read_question bytes sent received) later accepted).1

    is_search_lem : IsSearch g
    is_search_lem = read_search b run_read run_asked.0 run_asked.1

    run_accepted : IsAccepted b
    run_accepted =
        record {
          read = run_read;
          start = start_has_room b run_read run_asked.0 run_asked.1 (room_inside (shape_left b).n (few g is_search_lem));
        }

    run_holds : Searches b → (turns : List ℕ) → HoldsAfter b (as_processes turns)
    run_holds searches turns = demand_3 b run_accepted searches (as_processes turns)

-- ---- what `run` answers

module _ (bytes sent received : List ℕ) (initiator : Process) (purpose : ℕ) (list : List ℕ) where
  abbrev question : ℕ
  question = run_question bytes sent received initiator purpose

  abbrev reads : ℕ
  reads = read_question bytes sent received

  abbrev begins : ℕ → ℕ
  begins n = ask 10 (is_named n initiator.0) then λ _. ask 11 (is_purpose purpose)

  pub carries : CarriesDemand3 bytes sent received initiator purpose list
  carries accepted searches = run_holds bytes sent received initiator purpose accepted searches list

  pub read_refuses : (e : Question) → reads ≡ number e → question ≡ number e
  unfolding run_question
  read_refuses e h = then_refused reads (λ _. begins (shape_read bytes sent received).n) (no_pass e reads h) ∙ h

  read_shape : (shape : Shape) → reads ≡ 0 → shape ≡ shape_of (book_read bytes) → shape ≡ shape_read bytes sent received
  unfolding shape_read
  read_shape shape none same = same ∙ sym (kept_passed reads no_shape (shape_of (book_read bytes)) none)

  pub read_passes : (shape : Shape) → reads ≡ 0 → shape ≡ shape_of (book_read bytes) → question ≡ begins shape.n
  unfolding run_question
  read_passes shape none same =
      then_passed reads (λ _. begins (shape_read bytes sent received).n) none
      ∙ ap (λ (s : Shape). begins s.n) (sym (read_shape shape none same))

  -- a refusal changes nothing
  pub run_refused : (e : Question) → question ≡ number e
      → (sent ≡ sent_run bytes sent received initiator purpose) × (received ≡ received_run bytes sent received initiator purpose)
  unfolding sent_run received_run
  run_refused e h = (kept e question sent _ h, kept e question received _ h)

  module _
      (accepted : question ≡ 0)
      (shape : Shape)
      (sent' received' : List ℕ)
      (session : Session)
      (same : shape ≡ shape_of (book_read bytes))
      (sent_is : sent' ≡ sent_table (book_read bytes))
      (received_is : received' ≡ received_table (book_read bytes))
      (session_is :
      session
      ≡ (after_turns (lent shape sent' received') (started (lent shape sent' received') initiator purpose strands_inside) (as_processes list)).session)
    where
      reads_none : reads ≡ 0
      reads_none = run_read bytes sent received initiator purpose accepted

      Shape-is : shape ≡ shape_read bytes sent received
      Shape-is = read_shape shape reads_none same

      sent_read_lem : sent' ≡ sent_read bytes sent received
      unfolding sent_read
      sent_read_lem = sent_is ∙ sym (kept_passed reads sent (sent_table (book_read bytes)) reads_none)

      received_read_lem : received' ≡ received_read bytes sent received
      unfolding received_read
      received_read_lem = received_is ∙ sym (kept_passed reads received (received_table (book_read bytes)) reads_none)

      abbrev begun : Beginning
      begun = beginning bytes sent received initiator purpose

      session_there : session ≡ (after begun (as_processes list)).session
      session_there = rw (Shape-is, sent_read_lem, received_read_lem) at session_is

      pub run_answered : ◌≡◌ {A = RunEnd} (record { shape = shape; session = session }) (run_end bytes sent received initiator purpose list)
      unfolding shape_run session_run
      run_answered =
          let of_shape : shape ≡ shape_run bytes sent received initiator purpose =
          Shape-is ∙ sym (kept_passed question no_shape (shape_read bytes sent received) accepted) in
          let of_session : session ≡ session_run bytes sent received initiator purpose list =
          session_there ∙ sym (kept_passed question no_session (after begun (as_processes list)).session accepted) in
          λ i. record { shape = of_shape i; session = of_session i }

      pub run_filled : (sent' ≡ sent_run bytes sent received initiator purpose) × (received' ≡ received_run bytes sent received initiator purpose)
      unfolding sent_run received_run
      run_filled = (
        sent_read_lem ∙ sym (kept_passed question sent (sent_read bytes sent received) accepted),
        received_read_lem ∙ sym (kept_passed question received (received_read bytes sent received) accepted),
      )
