-- `move_line` meets its contract: a refusal leaves all as it was, and else both tables get the rows that the plan keeps.
use mathlib.Core.Path.{◌≡◌, ap, subst, ◌∙◌}
use Rattle.accepted.specs.Holding.{tables_in}
use Rattle.accepted.proofs.Accepting.{refused_with, not_with, passes_with, tables_are}
use Rattle.line_theory.specs.OfTables.{view_of}
use Rattle.line_theory.proofs.Accepted.{accepted_lengths}
use Rattle.book.specs.declared.Shape.{Shape}
use Rattle.book.specs.Lent.{Tables, lent}
use Rattle.book.specs.View.{first_rows}
use Rattle.book.specs.Accepted.{AreAccepted}
use Rattle.book.proofs.Refusals.{hands_on, accepts}
use Rattle.restart.specs.Plan.{planned}
use Rattle.restart.specs.Values.{plan_of}
use Rattle.moves.specs.Parts.{line_moved}
use Rattle.moves.proofs.Joined.{movable}
use Rattle.moves.proofs.Calls.{stays, moved}
use Rattle.moves.proofs.move_line.Goals as goal
use Rattle.moves.proofs.move_line.Goals.{In_ok-tables, After-plan_move-plan}

pub returns-in_err-tables : goal.returns-in_err-tables
returns-in_err-tables c = let a = c.args in
    let t = lent a.shape a.sent.now a.received.now in
    let h = c.accept.ensures in
    let was = c.in_err-tables.was in
    let tables = stays t a.purpose (not_with _ t h was) in
    record {
      answer = hands_on _ c.in_err-tables.field-0.0 (line_moved t a.purpose)
          c.from_residual.ensures.1 (λ f same. same) (refused_with _ t h was);
      sent_after = tables.0;
      received_after = tables.1;
    }

-- the accepted tables are those that were lent
same_tables : (c : In_ok-tables) → let a = c.args in tables_in c.in_ok-tables.tables ≡ lent a.shape a.sent.now a.received.now
same_tables c = let a = c.args in tables_are _ (lent a.shape a.sent.now a.received.now) c.accept.ensures c.in_ok-tables.was

accepted : (c : In_ok-tables) → let a = c.args in AreAccepted (lent a.shape a.sent.now a.received.now)
accepted c = subst AreAccepted (same_tables c) c.in_ok-tables.tables.passed.accepted

-- the plan, of the tables that were lent
made : (c : After-plan_move-plan)
    → let a = c.args in
    c.plan_move-plan.result ≡ plan_of a.shape.n (planned (view_of (lent a.shape a.sent.now a.received.now)) a.purpose)
made c =
    let a = c.args in
    subst (λ (t : Tables). c.plan_move-plan.result ≡ plan_of t.shape.n (planned (view_of t) a.purpose))
    (tables_are _ (lent a.shape a.sent.now a.received.now) c.accept.ensures c.in_ok-tables.was) c.plan_move-plan.ensures

-- and their rows are those of the shape that was lent
same_shape : (c : In_ok-tables) → c.in_ok-tables.tables.rows.shape ≡ c.args.shape
same_shape c = ap (λ (t : Tables). t.shape) (same_tables c)

same_starts : (c : In_ok-tables) → c.in_ok-tables.tables.rows.first ≡ first_rows c.args.shape.counts
same_starts c = c.in_ok-tables.tables.passed.starts ∙ ap (λ (s : Shape). first_rows s.counts) (same_shape c)

pub apply-moved-requires : goal.apply-moved-requires
apply-moved-requires c =
    let at = (goal.at.apply-moved-requires c).In_ok-tables in
    let good = accepted at in record {
      movable = movable good c.args.purpose _ (same_shape at) (same_starts at) _ (made (goal.at.apply-moved-requires c).After-plan_move-plan);
      sent_len = accepted_lengths good;
    }

pub returns : goal.returns
returns c = let applied = c.apply-moved in
    let a = c.args in
    let t = lent a.shape a.sent.now a.received.now in
    let at = (goal.at.returns c).In_ok-tables in
    let none = passes_with _ t c.accept.ensures c.in_ok-tables.was in
    let all
    = moved t a.purpose (accepted at) none c.in_ok-tables.tables.rows (same_shape at) (same_starts at)
    c.plan_move-plan.result (made (goal.at.returns c).After-plan_move-plan) applied.result applied.ensures.n_value _ _
    applied.ensures.sent_after applied.ensures.received_after in
    record { answer = accepts none all.0; sent_after = all.1.0; received_after = all.1.1 }
