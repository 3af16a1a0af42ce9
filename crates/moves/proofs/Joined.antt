-- From what the functions write to the definition of the call: the rows that a plan of accepted tables leaves are those of the moved
-- book.
use mathlib.Core.Path.{◌≡◌, sym, ap, subst, ◌∙◌}
use mathlib.Core.List.{List}
use Prim.Native.Nat.{ℕ, ◌+◌, ◌-◌, ◌≤◌, ◌<◌}
use native.Mathlib.Decide.{dec_lt}
use native.Mathlib.Omega.{arith}
use lib.ListN.{get_or}
use Rattle.book.specs.declared.Checkpoint.{Checkpoint}
use Rattle.book.specs.declared.Shape.{Shape}
use Rattle.book.specs.declared.TableRows.{TableRows}
use Rattle.book.specs.Tables.{shape_of, sent_table, received_table, padded}
use Rattle.book.specs.View.{count, counter_at, first_rows, S, R}
use Rattle.line_theory.specs.Sets.{View}
use Rattle.book.specs.Lent.{lent}
use Rattle.book.specs.Accepted.{AreAccepted}
use Rattle.book.proofs.Starts.{rows_accepted}
use Rattle.line_theory.specs.OfTables.{view_of}
use Rattle.line_theory.proofs.Accepted.{accepted_book, rows_placed}
use Rattle.consistency.specs.Set.{chosen}
use Rattle.matrix.specs.Matrix.{entry}
use Rattle.shown.specs.Rows.{all_rows_to}
use Rattle.shown.specs.Statements.{ZeroElsewhere}
use Rattle.shown.proofs.Theorems.{sent_rows_shown, received_rows_shown, shape_shown, accepted_zero_elsewhere}
use Rattle.restart.specs.declared.Plan.{Plan}
use Rattle.restart.specs.Plan.{line_checkpoint, go_before, are_kept, taken_off, planned, applied, moved}
use Rattle.restart.specs.Values.{numbers, pair_rows, plan_of}
use Rattle.restart.specs.Calls.{book_moved}
use Rattle.restart.proofs.Values.{number_at, checkpoint_at, pair_at, numbers_padded}
use Rattle.restart.proofs.Plans.{IsPlan, planned_is_plan}
use Rattle.plans.proofs.Given.{line_of, few_processes}
use Rattle.moves.specs.Parts.{Movable, rows_moved}
use Rattle.moves.proofs.Rows.{all_rows_same}

module _ {shape : Shape} {sent received : List ℕ} (accepted : AreAccepted (lent shape sent received)) (purpose : ℕ) where
  abbrev v : View
  v = view_of (lent shape sent received)

  few : shape.n ≤ 16
  few = few_processes accepted

  zeros : ZeroElsewhere v (S shape sent) × ZeroElsewhere v (R shape received)
  zeros = accepted_zero_elsewhere (lent shape sent received) accepted

  -- the plan's lists
  abbrev line_list : List Checkpoint
  line_list = line_of v purpose

  abbrev kept_list : List ℕ
  kept_list = numbers shape.n (are_kept v purpose)

  -- ---- the kept checkpoints are among those that there are

  is_plan : IsPlan v (planned v purpose)
  is_plan = planned_is_plan v purpose (accepted_book accepted)

  module _ (j : ℕ) (h : j < shape.n) where
    line_there : 1 ≤ line_checkpoint v purpose j
    unfolding planned
    line_there = is_plan.line.some j h

    kept_there : go_before v purpose j + are_kept v purpose j ≤ count shape j
    unfolding planned
    kept_there = omega (arith, is_plan.adds_up j h)

  -- ---- one of the two tables, and what is taken off its counters

  module _ (table : List ℕ) (off : ℕ → ℕ → ℕ) where
    -- an entry of the moved table, and as the lists of the plan give it
    abbrev moved_entry : ℕ → ℕ → ℕ → ℕ
    moved_entry j r p = counter_at shape.counts table j (go_before v purpose j + r) p - off j p

    abbrev listed_entry : ℕ → ℕ → ℕ → ℕ
    listed_entry j r p = counter_at shape.counts table j (chosen line_list j - 1 + r) p - entry (pair_rows shape.n off) j p

    module _ (none : ZeroElsewhere v (counter_at shape.counts table)) where
      -- zeros from which something is taken off stay zeros
      zero_elsewhere : ZeroElsewhere (moved v purpose) moved_entry
      unfolding planned applied
      zero_elsewhere j r h first last =
          let was = none j (go_before v purpose j + r) h (omega arith) (omega (arith, kept_there j h)) in
          (omega (arith, was.0), λ p m l. omega (arith, was.1 p m l))

      -- they differ only in what is taken off for absent partners, and there is nothing to take it off
      entry_same : (j r p : ℕ) → j < shape.n → 1 ≤ r → r ≤ are_kept v purpose j → p < 16 → listed_entry j r p ≡ moved_entry j r p
      entry_same j r p h first last m =
          let was = none j (go_before v purpose j + r) h (omega arith) (omega (arith, kept_there j h)) in
          rw (checkpoint_at shape.n few (line_checkpoint v purpose) j h)
          (elim (dec_lt p shape.n) [
            | yes o ↦ rw (pair_at shape.n few off j p h o)
            | no o ↦ omega (arith, was.1 p (omega arith) m)
          ])

      rows_are : all_rows_to (λ j. get_or kept_list j 0) listed_entry shape.n ≡ all_rows_to (are_kept v purpose) moved_entry shape.n
      rows_are =
          let counts = number_at shape.n few (are_kept v purpose) in
          all_rows_same shape.n (λ j. get_or kept_list j 0) (are_kept v purpose) listed_entry moved_entry counts
          (λ j r p h first last m. entry_same j r p h first (rw (counts j h) at last) m)

  -- ---- the plan fits the rows, and what it leaves is the moved book

  module _ (rows : TableRows) (same : rows.shape ≡ shape) (starts : rows.first ≡ first_rows shape.counts) where
    movable_of : Movable rows line_list kept_list
    movable_of =
        record {
          placed = rows_placed (rows_accepted accepted (same, starts));
          most = rw same few;
          among = λ j h. among j (rw same at h);
        }
      where
        among : (j : ℕ) → j < shape.n → (1 ≤ chosen line_list j) × (chosen line_list j - 1 + get_or kept_list j 0 ≤ count rows.shape j)
        among j h =
            rw (same, checkpoint_at shape.n few (line_checkpoint v purpose) j h, number_at shape.n few (are_kept v purpose) j h)
            (line_there j h, kept_there j h)

    rows_of : (table : List ℕ) (off : ℕ → ℕ → ℕ) → ZeroElsewhere v (counter_at shape.counts table)
        → rows_moved rows table line_list kept_list (pair_rows shape.n off) ≡ all_rows_to (are_kept v purpose) (moved_entry table off) shape.n
    rows_of table off none =
        ap (λ (s : Shape). rows_moved (record { shape = s; first = rows.first }) table line_list kept_list (pair_rows shape.n off)) same
        ∙ rows_are table off none

    module _ (plan : Plan) (made : plan ≡ plan_of shape.n (planned v purpose)) where
      pub movable : Movable rows plan.line plan.kept
      unfolding planned plan_of
      movable = subst (λ (q : Plan). Movable rows q.line q.kept) (sym made) movable_of

      pub sent_moved_lem : padded 4096 (rows_moved rows sent plan.line plan.kept plan.off.sent) ≡ sent_table (book_moved (lent shape sent received) purpose)
      unfolding planned applied plan_of book_moved
      sent_moved_lem =
          ap (λ (q : Plan). padded 4096 (rows_moved rows sent q.line q.kept q.off.sent)) made
          ∙ ap (padded 4096) (rows_of sent (taken_off v purpose) zeros.0)
          ∙ sym (sent_rows_shown (moved v purpose) few (zero_elsewhere sent (taken_off v purpose) zeros.0))

      pub received_moved_lem : padded 4096 (rows_moved rows received plan.line plan.kept plan.off.received)
          ≡ received_table (book_moved (lent shape sent received) purpose)
      unfolding planned applied plan_of book_moved
      received_moved_lem =
          let off : ℕ → ℕ → ℕ = λ j p. taken_off v purpose p j in
          ap (λ (q : Plan). padded 4096 (rows_moved rows received q.line q.kept q.off.received)) made
          ∙ ap (padded 4096) (rows_of received off zeros.1)
          ∙ sym (received_rows_shown (moved v purpose) few (zero_elsewhere received off zeros.1))

      pub shape_moved_lem : record { n = shape.n; counts = plan.kept } ≡ shape_of (book_moved (lent shape sent received) purpose)
      unfolding planned applied plan_of book_moved
      shape_moved_lem =
          ap {B = Shape} (λ (q : Plan). record { n = shape.n; counts = q.kept }) made
          ∙ ap {B = Shape} (λ (counts : List ℕ). record { n = shape.n; counts = counts }) (numbers_padded shape.n few (are_kept v purpose))
          ∙ sym (shape_shown (moved v purpose))
