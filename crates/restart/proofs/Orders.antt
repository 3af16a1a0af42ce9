-- The restart order where no question fails, process by process.
use mathlib.Core.Path.{◌≡◌, ap}
use mathlib.Core.Bool.{true}
use Prim.Native.Nat.{ℕ, ◌≤◌, ◌<◌}
use lib.ListN.{length, get_or}
use Rattle.book.specs.InTurn.{ask}
use Rattle.book.specs.Check.{tables_question}
use Rattle.book.proofs.Questions.{then_none, then_both, ask_yes, asked_yes, kept_passed}
use Rattle.line_theory.specs.OfTables.{view_of}
use Rattle.line_theory.proofs.Accepted.{passed_size}
use Rattle.consistency.specs.Set.{chosen}
use Rattle.matrix.specs.Matrix.{entry}
use Rattle.finder.specs.Line.{checkpoints}
use Rattle.book.specs.Names.{is_purpose}
use Rattle.book.specs.Lent.{Tables}
use Rattle.book.specs.Accepted.{AreAccepted}
use Rattle.restart.specs.declared.Order.{Order}
use Rattle.restart.specs.Plan.{Planned, planned}
use Rattle.restart.specs.Values.{present, numbers, resend_of, order_of}
use Rattle.restart.specs.Calls.{no_order, move_question, order_given}
use Rattle.restart.proofs.Values.{number_at, checkpoint_at, pair_at}

module _ (t : Tables) (purpose : ℕ) where
  pub move_passes : tables_question t ≡ 0 → is_purpose purpose ≡ true → move_question t purpose ≡ 0
  unfolding move_question
  move_passes accepted purposed =
      then_both (tables_question t) (λ _. ask 11 (is_purpose purpose)) accepted (ask_yes 11 (is_purpose purpose) purposed)

  module _ (passed : move_question t purpose ≡ 0) where
    abbrev plan : Planned
    plan = planned (view_of t) purpose

    abbrev order : Order
    order = order_given t purpose

    pub tables_pass : tables_question t ≡ 0
    unfolding move_question
    tables_pass = (then_none (tables_question t) (λ _. ask 11 (is_purpose purpose)) passed).0

    pub accepted_of : length t.shape.counts ≡ 16 → AreAccepted t
    accepted_of sixteen = record { sixteen = sixteen; passed = tables_pass }

    pub purpose_passes : is_purpose purpose ≡ true
    unfolding move_question
    purpose_passes =
        asked_yes 10 (is_purpose purpose) (then_none (tables_question t) (λ _. ask 11 (is_purpose purpose)) passed).1

    few : t.shape.n ≤ 16
    few = (passed_size t tables_pass).1

    pub order_given_lem : order ≡ order_of t.shape.n plan
    unfolding order_given
    order_given_lem = kept_passed (move_question t purpose) no_order (order_of t.shape.n plan) passed

    pub order_from : order.from ≡ checkpoints (present t.shape.n plan.line)
    unfolding order_of
    order_from = ap (λ (o : Order). o.from) order_given_lem

    pub order_before : order.before ≡ numbers t.shape.n plan.before
    unfolding order_of
    order_before = ap (λ (o : Order). o.before) order_given_lem

    pub order_after : order.after ≡ numbers t.shape.n plan.after
    unfolding order_of
    order_after = ap (λ (o : Order). o.after) order_given_lem

    pub order_resend : order.resend ≡ resend_of t.shape.n plan
    unfolding order_of
    order_resend = ap (λ (o : Order). o.resend) order_given_lem

    -- what is sent again on a channel
    module _ (a b : ℕ) (h : a < t.shape.n) (m : b < t.shape.n) where
      pub first_at : entry order.resend.first a b ≡ plan.first a b
      unfolding resend_of
      first_at = rw order_resend (pair_at t.shape.n few plan.first a b h m)

      pub last_at : entry order.resend.last a b ≡ plan.last a b
      unfolding resend_of
      last_at = rw order_resend (pair_at t.shape.n few plan.last a b h m)

    module _ (j : ℕ) (h : j < t.shape.n) where
      pub from_at : chosen order.from j ≡ plan.line j
      from_at = rw order_from (checkpoint_at t.shape.n few plan.line j h)

      pub before_at : get_or order.before j 0 ≡ plan.before j
      before_at = rw order_before (number_at t.shape.n few plan.before j h)

      pub after_at : get_or order.after j 0 ≡ plan.after j
      after_at = rw order_after (number_at t.shape.n few plan.after j h)
