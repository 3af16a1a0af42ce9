-- What the call `search` answers and leaves, by what the code finds out.
use mathlib.Core.Path.{◌≡◌, sym, ap, ◌∙◌}
use mathlib.Core.Bool.{◌&&◌}
use mathlib.Core.List.{List}
use Prim.Native.Nat.{ℕ}
use lib.Seq.{sets}
use Rattle.book.specs.Lent.{lent}
use Rattle.book.specs.declared.Shape.{Shape}
use Rattle.book.specs.InTurn.{ask}
use Rattle.searches.specs.declared.SearchEnd.{SearchEnd}
use Rattle.searches.specs.Search.{search_question, search_end}
use Rattle.words.specs.Words.{shape_length, set_length, wrong_length, is_long}
use Rattle.words.specs.Plain.{shape_in, set_words}
use Rattle.recovery_line.specs.Machines.{as_process}
use Rattle.recovery_line.specs.Sessions.{search_answer, search_set, search_newer, search_rounds, search_messages}
use Rattle.recovery_line.proofs.Shells.{two_long, wrong, asked, kept, put, set_put}

module _ (shape sent received : List ℕ) (initiator purpose : ℕ) (set : List ℕ) (newer rounds messages : ℕ) {q : ℕ}
    (same : q ≡ ask wrong_length (is_long shape_length shape && is_long set_length set))
  where
    abbrev inside : ℕ
    inside = search_question (lent (shape_in shape) sent received) (as_process initiator) purpose

    abbrev answer_put : ℕ
    answer_put = search_answer shape sent received initiator purpose set

    -- the answer, and what is left in the slice and in each number
    abbrev Searched : ℕ → List ℕ → ℕ → ℕ → ℕ → Type 0
    Searched r set' newer' rounds' messages' =
        (r ≡ answer_put)
        × ((set' ≡ search_set shape sent received initiator purpose set)
        × ((newer' ≡ search_newer shape sent received initiator purpose set newer)
        × ((rounds' ≡ search_rounds shape sent received initiator purpose set rounds)
        × (messages' ≡ search_messages shape sent received initiator purpose set messages))))

    untouched : {r : ℕ} → r ≡ answer_put → (r ≡ 0 → ⊥) → Searched r set newer rounds messages
    unfolding search_set search_newer search_rounds search_messages
    untouched e some =
        (e, (kept e set _ some, (kept e newer _ some, (kept e rounds _ some, kept e messages _ some))))

    pub search_wrong : (q ≡ 0 → ⊥) → Searched q set newer rounds messages
    unfolding search_answer
    search_wrong some = untouched (wrong same (λ _. inside) some) some

    module _ (none : q ≡ 0) {given : Shape} (given_is : given ≡ shape_in shape) {i : ℕ} (i_is : i ≡ initiator) {r : ℕ}
        (of_call : r ≡ search_question (lent given sent received) (as_process i) purpose)
      where
        answered : r ≡ answer_put
        unfolding search_answer
        answered =
            asked same (λ _. inside) none (of_call ∙ (λ t. search_question (lent (given_is t) sent received) (as_process (i_is t)) purpose))

        pub search_refused : (r ≡ 0 → ⊥) → Searched r set newer rounds messages
        search_refused some = untouched answered some

        module _ (zeroed : r ≡ 0) {found : SearchEnd} (e : found ≡ search_end (lent given sent received) (as_process i) purpose) {set' : List ℕ}
            (left : set' ≡ sets set 0 (set_words found.set))
          where
            end_is : found ≡ search_end (lent (shape_in shape) sent received) (as_process initiator) purpose
            end_is = e ∙ (λ t. search_end (lent (given_is t) sent received) (as_process (i_is t)) purpose)

            set_left : set' ≡ search_set shape sent received initiator purpose set
            unfolding search_set
            set_left =
                let place = set_put set (two_long shape_length set_length shape set same none).1 found.set left in
                put answered set _ zeroed (place ∙ ap (λ (s : SearchEnd). set_words s.set) end_is)

            pub search_ended : {newer' rounds' messages' : ℕ} → newer' ≡ found.newer → rounds' ≡ found.rounds → messages' ≡ found.messages
                → Searched 0 set' newer' rounds' messages'
            unfolding search_newer search_rounds search_messages
            search_ended later waits turns = (
              sym zeroed ∙ answered,
              (
                set_left,
                (
                  put answered newer _ zeroed (later ∙ ap (λ (s : SearchEnd). s.newer) end_is),
                  (
                    put answered rounds _ zeroed (waits ∙ ap (λ (s : SearchEnd). s.rounds) end_is),
                    put answered messages _ zeroed (turns ∙ ap (λ (s : SearchEnd). s.messages) end_is),
                  ),
                ),
              ),
            )
