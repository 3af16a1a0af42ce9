-- What the calls `start` and `turn` answer and leave, by what the code finds out.
use mathlib.Core.Path.{◌≡◌, sym, ap, ◌∙◌}
use mathlib.Core.Bool.{◌&&◌}
use mathlib.Core.List.{List}
use Prim.Native.Nat.{ℕ}
use Rattle.book.specs.Lent.{lent}
use Rattle.book.specs.declared.Shape.{Shape}
use Rattle.book.specs.InTurn.{ask}
use Rattle.session.specs.declared.Session.{Session}
use Rattle.session.specs.Calls.{start_question, session_started, strands_started, turn_question, session_after, strands_after}
use Rattle.words.specs.Words.{shape_length, wrong_length, is_long}
use Rattle.words.specs.Plain.{shape_in}
use Rattle.words.specs.Session.{session_length, session_words, session_in}
use Rattle.recovery_line.specs.Machines.{as_process}
use Rattle.recovery_line.specs.Sessions.{start_answer, start_session, start_strands, turn_answer, turn_session, turn_strands}
use Rattle.recovery_line.proofs.Shells.{wrong, asked, kept, put, through}

-- ---- start

module _ (shape sent received : List ℕ) (initiator purpose : ℕ) (session strands : List ℕ) {q : ℕ}
    (same : q ≡ ask wrong_length (is_long shape_length shape && is_long session_length session))
  where
    abbrev start_inside : ℕ
    start_inside = start_question (lent (shape_in shape) sent received) (as_process initiator) purpose strands

    abbrev start_answer_lem : ℕ
    start_answer_lem = start_answer shape sent received initiator purpose session strands

    -- the answer, and what is left in each slice
    abbrev Started : ℕ → List ℕ → List ℕ → Type 0
    Started r session' strands' =
        (r ≡ start_answer_lem)
        × ((session' ≡ start_session shape sent received initiator purpose session strands)
        × (strands' ≡ start_strands shape sent received initiator purpose session strands))

    pub start_wrong : (q ≡ 0 → ⊥) → Started q session strands
    unfolding start_answer start_session start_strands
    start_wrong some =
        let e = wrong same (λ _. start_inside) some in
        (e, (kept e session _ some, kept e strands _ some))

    module _ (none : q ≡ 0) {given : Shape} (given_is : given ≡ shape_in shape) {i : ℕ} (i_is : i ≡ initiator) {r : ℕ}
        (of_call : r ≡ start_question (lent given sent received) (as_process i) purpose strands)
        {strands' : List ℕ} (left : strands' ≡ strands_started (lent given sent received) (as_process i) purpose strands)
      where
        of_start : r ≡ start_inside
        of_start = of_call ∙ (λ t. start_question (lent (given_is t) sent received) (as_process (i_is t)) purpose strands)

        start_answered : r ≡ start_answer_lem
        unfolding start_answer
        start_answered = asked same (λ _. start_inside) none of_start

        start_left : strands' ≡ start_strands shape sent received initiator purpose session strands
        unfolding start_strands strands_started
        start_left =
            through start_answer_lem start_inside strands _ start_answered of_start
            (left ∙ (λ t. strands_started (lent (given_is t) sent received) (as_process (i_is t)) purpose strands))

        pub start_refused : (r ≡ 0 → ⊥) → Started r session strands'
        unfolding start_session
        start_refused some = (start_answered, (kept start_answered session _ some, start_left))

        pub start_done : r ≡ 0 → {next : Session} → next ≡ session_started (lent given sent received) (as_process i) purpose strands
            → {session' : List ℕ} → session' ≡ session_words next → Started 0 session' strands'
        unfolding start_session
        start_done zeroed e put_there =
            let begun = e ∙ (λ t. session_started (lent (given_is t) sent received) (as_process (i_is t)) purpose strands) in
            (sym zeroed ∙ start_answered, (put start_answered session _ zeroed (put_there ∙ ap session_words begun), start_left))

-- ---- turn

module _ (session shape sent received : List ℕ) (p : ℕ) (strands : List ℕ) {q : ℕ}
    (same : q ≡ ask wrong_length (is_long shape_length shape && is_long session_length session))
  where
    abbrev turn_inside : ℕ
    turn_inside = turn_question (lent (shape_in shape) sent received) (session_in session) (as_process p) strands

    abbrev turn_answer_lem : ℕ
    turn_answer_lem = turn_answer session shape sent received p strands

    abbrev Turned : ℕ → List ℕ → List ℕ → Type 0
    Turned r session' strands' =
        (r ≡ turn_answer_lem)
        × ((session' ≡ turn_session session shape sent received p strands)
        × (strands' ≡ turn_strands session shape sent received p strands))

    pub turn_wrong : (q ≡ 0 → ⊥) → Turned q session strands
    unfolding turn_answer turn_session turn_strands
    turn_wrong some =
        let e = wrong same (λ _. turn_inside) some in
        (e, (kept e session _ some, kept e strands _ some))

    module _ (none : q ≡ 0) {given : Shape} (given_is : given ≡ shape_in shape) {k : ℕ} (k_is : k ≡ p) {held : Session}
        (held_is : held ≡ session_in session) {r : ℕ} (of_call : r ≡ turn_question (lent given sent received) held (as_process k) strands)
        {strands' : List ℕ} (left : strands' ≡ strands_after (lent given sent received) held (as_process k) strands)
      where
        of_turn : r ≡ turn_inside
        of_turn = of_call ∙ (λ t. turn_question (lent (given_is t) sent received) (held_is t) (as_process (k_is t)) strands)

        turn_answered : r ≡ turn_answer_lem
        unfolding turn_answer
        turn_answered = asked same (λ _. turn_inside) none of_turn

        turn_left : strands' ≡ turn_strands session shape sent received p strands
        unfolding turn_strands strands_after
        turn_left =
            through turn_answer_lem turn_inside strands _ turn_answered of_turn
            (left ∙ (λ t. strands_after (lent (given_is t) sent received) (held_is t) (as_process (k_is t)) strands))

        pub turn_refused : (r ≡ 0 → ⊥) → Turned r session strands'
        unfolding turn_session
        turn_refused some = (turn_answered, (kept turn_answered session _ some, turn_left))

        pub turn_done : r ≡ 0 → {next : Session} → next ≡ session_after (lent given sent received) held (as_process k) strands
            → {session' : List ℕ} → session' ≡ session_words next → Turned 0 session' strands'
        unfolding turn_session
        turn_done zeroed e put_there =
            let after = e ∙ (λ t. session_after (lent (given_is t) sent received) (held_is t) (as_process (k_is t)) strands) in
            (sym zeroed ∙ turn_answered, (put turn_answered session _ zeroed (put_there ∙ ap session_words after), turn_left))
