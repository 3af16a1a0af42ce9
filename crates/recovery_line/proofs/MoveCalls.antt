-- What the calls on moves answer and leave, by what the code finds out.
use mathlib.Core.Path.{◌≡◌, sym, ap, ◌∙◌}
use mathlib.Core.Bool.{◌&&◌}
use mathlib.Core.List.{List}
use Prim.Native.Nat.{ℕ}
use Rattle.book.specs.Lent.{lent}
use Rattle.book.specs.declared.Shape.{Shape}
use Rattle.book.specs.InTurn.{ask}
use Rattle.restart.specs.declared.Order.{Order}
use Rattle.moves.specs.declared.Moved.{Moved as AfterMove}
use Rattle.moves.specs.Parts.{line_moved}
use Rattle.restart.specs.Calls.{move_question, order_given, shape_moved, sent_moved, received_moved}
use Rattle.words.specs.Words.{shape_length, order_length, wrong_length, is_long}
use Rattle.words.specs.Plain.{shape_in, shape_words, order_words}
use Rattle.recovery_line.specs.Moves.{move_answer, move_shape, move_sent, move_received, move_order}
use Rattle.recovery_line.proofs.Shells.{wrong, asked, kept, put, through}

module _ (shape sent received : List ℕ) (purpose : ℕ) (order : List ℕ) {q : ℕ}
    (same : q ≡ ask wrong_length (is_long shape_length shape && is_long order_length order))
  where
    abbrev inside : ℕ
    inside = move_question (lent (shape_in shape) sent received) purpose

    abbrev answer_put : ℕ
    answer_put = move_answer shape sent received purpose order

    -- the answer, and what is left in the slice of the order
    abbrev Given : ℕ → List ℕ → Type 0
    Given r order' = (r ≡ answer_put) × (order' ≡ move_order shape sent received purpose order)

    -- and in those of a move
    abbrev Moved : ℕ → List ℕ → List ℕ → List ℕ → List ℕ → Type 0
    Moved r shape' sent' received' order' =
        (r ≡ answer_put)
        × ((shape' ≡ move_shape shape sent received purpose order)
        × ((sent' ≡ move_sent shape sent received purpose order)
        × ((received' ≡ move_received shape sent received purpose order) × (order' ≡ move_order shape sent received purpose order))))

    no_order : {r : ℕ} → r ≡ answer_put → (r ≡ 0 → ⊥) → order ≡ move_order shape sent received purpose order
    unfolding move_order
    no_order e some = kept e order _ some

    wrong_length_lem : (q ≡ 0 → ⊥) → q ≡ answer_put
    unfolding move_answer
    wrong_length_lem some = wrong same (λ _. inside) some

    pub order_wrong : (q ≡ 0 → ⊥) → Given q order
    order_wrong some = let e = wrong_length_lem some in (e, no_order e some)

    pub move_wrong : (q ≡ 0 → ⊥) → Moved q shape sent received order
    unfolding move_shape move_sent move_received
    move_wrong some =
        let e = wrong_length_lem some in
        (e, (kept e shape _ some, (kept e sent _ some, (kept e received _ some, no_order e some))))

    module _ (none : q ≡ 0) {given : Shape} (given_is : given ≡ shape_in shape) {r : ℕ}
        (of_call : r ≡ move_question (lent given sent received) purpose)
      where
        of_move : r ≡ inside
        of_move = of_call ∙ (λ t. move_question (lent (given_is t) sent received) purpose)

        answered : r ≡ answer_put
        unfolding move_answer
        answered = asked same (λ _. inside) none of_move

        pub order_refused : (r ≡ 0 → ⊥) → Given r order
        order_refused some = (answered, no_order answered some)

        order_put : r ≡ 0 → {restart : Order} → restart ≡ order_given (lent given sent received) purpose
            → {order' : List ℕ} → order' ≡ order_words restart → order' ≡ move_order shape sent received purpose order
        unfolding move_order
        order_put zeroed e put_there =
            put answered order _ zeroed (put_there ∙ ap order_words (e ∙ (λ t. order_given (lent (given_is t) sent received) purpose)))

        pub order_given_lem : r ≡ 0 → {restart : Order} → restart ≡ order_given (lent given sent received) purpose
            → {order' : List ℕ} → order' ≡ order_words restart → Given 0 order'
        order_given_lem zeroed e put_there = (sym zeroed ∙ answered, order_put zeroed e put_there)

        module _ {sent' received' : List ℕ} (left : sent' ≡ sent_moved (lent given sent received) purpose)
            (left' : received' ≡ received_moved (lent given sent received) purpose)
          where
            sent_left : sent' ≡ move_sent shape sent received purpose order
            unfolding move_sent sent_moved
            sent_left =
                through answer_put inside sent _ answered of_move
                (left ∙ (λ t. sent_moved (lent (given_is t) sent received) purpose))

            received_left : received' ≡ move_received shape sent received purpose order
            unfolding move_received received_moved
            received_left =
                through answer_put inside received _ answered of_move
                (left' ∙ (λ t. received_moved (lent (given_is t) sent received) purpose))

            pub move_refused : (r ≡ 0 → ⊥) → Moved r shape sent' received' order
            unfolding move_shape
            move_refused some = (answered, (kept answered shape _ some, (sent_left, (received_left, no_order answered some))))

            pub move_done : r ≡ 0 → {moved : AfterMove} → moved ≡ line_moved (lent given sent received) purpose
                → {shape' : List ℕ} → shape' ≡ shape_words moved.shape → {order' : List ℕ} → order' ≡ order_words moved.order
                → Moved 0 shape' sent' received' order'
            unfolding move_shape
            move_done zeroed e put_there put_there' =
                let is = ap (λ (m : AfterMove). m.shape) e ∙ (λ t. shape_moved (lent (given_is t) sent received) purpose) in (
                  sym zeroed ∙ answered,
                  (
                    put answered shape _ zeroed (put_there ∙ ap shape_words is),
                    (sent_left, (received_left, order_put zeroed (ap (λ (m : AfterMove). m.order) e) put_there')),
                  ),
                )
