-- What `move_line` hands back and leaves in the tables is what the definitions say, whether a question fails or none does.
use mathlib.Core.Path.{◌≡◌, sym, ap, ◌∙◌}
use mathlib.Core.List.{List}
use Prim.Native.Nat.{ℕ}
use Rattle.book.specs.declared.Shape.{Shape}
use Rattle.book.specs.declared.TableRows.{TableRows}
use Rattle.book.specs.Layout.{Book}
use Rattle.book.specs.Tables.{shape_of, sent_table, received_table, padded}
use Rattle.book.specs.View.{first_rows}
use Rattle.book.proofs.Questions.{kept_passed, kept_refused}
use Rattle.line_theory.specs.OfTables.{view_of}
use Rattle.book.specs.Lent.{Tables}
use Rattle.book.specs.Accepted.{AreAccepted}
use Rattle.restart.specs.declared.Plan.{Plan}
use Rattle.restart.specs.Plan.{planned}
use Rattle.restart.specs.Values.{plan_of}
use Rattle.restart.specs.Calls.{move_question, book_moved, shape_moved, sent_moved, received_moved}
use Rattle.restart.proofs.Orders.{order_given_lem}
use Rattle.moves.specs.declared.Moved.{Moved}
use Rattle.moves.specs.Parts.{rows_moved, line_moved}
use Rattle.moves.proofs.Joined.{sent_moved_lem, received_moved_lem, shape_moved_lem}

module _ (t : Tables) (purpose : ℕ) where
  abbrev question : ℕ
  question = move_question t purpose

  abbrev book : Book
  book = book_moved t purpose

  -- a question fails: the tables are as they were
  pub stays : (question ≡ 0 → ⊥) → (t.sent ≡ sent_moved t purpose) × (t.received ≡ received_moved t purpose)
  unfolding sent_moved received_moved
  stays some = (sym (kept_refused question t.sent (sent_table book) some), sym (kept_refused question t.received (received_table book) some))

  module _ (accepted : AreAccepted t) (none : question ≡ 0) (rows : TableRows) (same : rows.shape ≡ t.shape)
      (starts : rows.first ≡ first_rows t.shape.counts) (plan : Plan) (made : plan ≡ plan_of t.shape.n (planned (view_of t) purpose))
    where
      shape_is : (shape' : Shape) → (shape'.n ≡ rows.shape.n) × (shape'.counts ≡ plan.kept)
          → shape' ≡ record { n = t.shape.n; counts = plan.kept }
      shape_is shape' has =
          let size : shape'.n ≡ t.shape.n = has.0 ∙ ap (λ (s : Shape). s.n) same in
          λ i. record { n = size i; counts = has.1 i }

      -- none fails: the plan's rows stand in both tables
      pub moved : (shape' : Shape) → (shape'.n ≡ rows.shape.n) × (shape'.counts ≡ plan.kept) → (sent' received' : List ℕ)
          → sent' ≡ padded 4096 (rows_moved rows t.sent plan.line plan.kept plan.off.sent)
          → received' ≡ padded 4096 (rows_moved rows t.received plan.line plan.kept plan.off.received)
          → ◌≡◌ {A = Moved} (record { shape = shape'; order = plan.order }) (line_moved t purpose)
          × ((sent' ≡ sent_moved t purpose) × (received' ≡ received_moved t purpose))
      unfolding shape_moved sent_moved received_moved plan_of
      moved shape' has sent' received' put put' =
          let shape_moves
          = shape_is shape' has ∙ shape_moved_lem accepted purpose rows same starts plan made ∙ sym (kept_passed question t.shape (shape_of book) none) in
          let order_moves = ap (λ (q : Plan). q.order) made ∙ sym (order_given_lem t purpose none) in (
            λ i. record { shape = shape_moves i; order = order_moves i },
            (
              put ∙ sent_moved_lem accepted purpose rows same starts plan made
                  ∙ sym (kept_passed question t.sent (sent_table book) none),
              put' ∙ received_moved_lem accepted purpose rows same starts plan made
                  ∙ sym (kept_passed question t.received (received_table book) none),
            ),
          )
