-- A plan and an order that are made from the line checkpoints of accepted tables are those of the definitions.
use mathlib.Core.Path.{◌≡◌, refl, ap, ◌∙◌}
use mathlib.Core.List.{List}
use Prim.Native.Nat.{ℕ, ◌-◌, ◌≤◌, ◌<◌}
use native.Mathlib.Decide.{dec_lt}
use native.Mathlib.Omega.{arith}
use borrow.Author.Tests.{lt-ltb, le-ltb}
use Rattle.book.specs.declared.Checkpoint.{Checkpoint}
use Rattle.book.specs.declared.Count.{Count}
use Rattle.book.specs.Lent.{Tables}
use Rattle.book.specs.Accepted.{AreAccepted}
use Rattle.line_theory.specs.Sets.{View, IsSet}
use Rattle.line_theory.specs.OfTables.{view_of}
use Rattle.line_theory.proofs.Accepted.{accepted_book}
use Rattle.shown.specs.Statements.{ZeroElsewhere}
use Rattle.shown.proofs.Theorems.{accepted_zero_elsewhere}
use Rattle.consistency.specs.Set.{chosen}
use Rattle.lists.specs.Pick.{pick}
use Rattle.matrix.specs.Matrix.{entry}
use Rattle.restart.specs.declared.Order.{Order}
use Rattle.restart.specs.declared.Plan.{Plan}
use Rattle.restart.specs.declared.Resend.{Resend}
use Rattle.restart.specs.Plan.{restarts, line_checkpoint, line_sent, line_received, taken_off, first_missing, last_missing, planned}
use Rattle.restart.specs.Values.{present, numbers, rows_of, pair_rows, resend_of, order_of, plan_of}
use Rattle.restart.proofs.Values.{checkpoint_at, row_none, pair_at, pair_none, numbers_ext, rows_ext}
use Rattle.restart.proofs.Plans.{line_is_set}
use Rattle.plans.proofs.Given.{line_of, few_processes}

-- what is taken off the receivers' counters, read the other way, is what is taken off the senders'
read_across : (n : ℕ) → n ≤ 16 → (off : ℕ → ℕ → ℕ) → rows_of n (λ a b. entry (pair_rows n (λ j p. off p j)) b a) ≡ pair_rows n off
read_across n few off = rows_ext n (λ a b. entry (pair_rows n received) b a) (λ a b. present n (off a) b) at
  where
    received : ℕ → ℕ → ℕ
    received j p = off p j

    at : (a b : ℕ) → a < n → b < 16 → entry (pair_rows n received) b a ≡ present n (off a) b
    at a b h m =
        elim (dec_lt b n) [
          | yes o ↦ rw (lt-ltb b n o) (pair_at n few received b a o h)
          | no o ↦ rw (le-ltb b n (omega arith)) (row_none n few (λ j p. present n (received j) p) b a (omega arith) m (omega arith))
        ]

module _ {t : Tables} (accepted : AreAccepted t) (purpose : ℕ) (line : List Checkpoint) (is : line ≡ line_of (view_of t) purpose) where
  abbrev v : View
  v = view_of t

  few : v.n ≤ 16
  few = few_processes accepted

  at_line : (j : ℕ) → j < v.n → chosen line j ≡ line_checkpoint v purpose j
  at_line j h = ap (λ (s : List Checkpoint). chosen s j) is ∙ checkpoint_at v.n few (line_checkpoint v purpose) j h

  -- by a function of the line checkpoint
  by_line : (g : ℕ → ℕ → ℕ) → numbers v.n (λ j. g j (chosen line j)) ≡ numbers v.n (λ j. g j (line_checkpoint v purpose j))
  by_line g = numbers_ext v.n (λ j. g j (chosen line j)) (λ j. g j (line_checkpoint v purpose j)) (λ j h. ap (g j) (at_line j h))

  -- the line checkpoints have sent nothing to absent processes and received nothing from them: their rows in one of the tables
  rows_are : (row : ℕ → ℕ → ℕ → ℕ) → ZeroElsewhere v row
      → rows_of v.n (λ j p. row j (chosen line j) p) ≡ pair_rows v.n (λ j p. row j (line_checkpoint v purpose j) p)
  rows_are row zero =
      rows_ext v.n (λ j p. row j (chosen line j) p) (λ j p. present v.n (row j (line_checkpoint v purpose j)) p) at
    where
      there : IsSet v (line_checkpoint v purpose)
      there = line_is_set v purpose (accepted_book accepted)

      at : (j p : ℕ) → j < v.n → p < 16 → row j (chosen line j) p ≡ present v.n (row j (line_checkpoint v purpose j)) p
      at j p h m =
          let held = ap (λ (r : ℕ). row j r p) (at_line j h) in
          let none = (zero j (line_checkpoint v purpose j) h (there.some j h) (there.among j h)).1 in
          elim (dec_lt p v.n) [
            | yes o ↦ rw (lt-ltb p v.n o) held
            | no o ↦ rw (le-ltb p v.n (omega arith)) (held ∙ none p (omega arith) m)
          ]

  -- what they had sent, a row for each sender
  sent_is : rows_of v.n (λ j p. v.S j (chosen line j) p) ≡ pair_rows v.n (line_sent v purpose)
  sent_is = rows_are v.S (accepted_zero_elsewhere t accepted).0

  -- what they had received, a row for each receiver, and for each sender
  module _ {by_receiver by_sender : List Count} (received : by_receiver ≡ rows_of v.n (λ j p. v.R j (chosen line j) p))
      (across : by_sender ≡ rows_of v.n (λ a b. entry by_receiver b a)) where
    by_receiver_is : by_receiver ≡ pair_rows v.n (λ j p. taken_off v purpose p j)
    by_receiver_is = received ∙ rows_are v.R (accepted_zero_elsewhere t accepted).1

    by_sender_is : by_sender ≡ pair_rows v.n (taken_off v purpose)
    by_sender_is =
        across ∙ ap (λ (l : List Count). rows_of v.n (λ a b. entry l b a)) by_receiver_is
        ∙ read_across v.n few (taken_off v purpose)

    -- a number of each channel that is 0 where nothing was sent or received, by what was received and what was sent
    by_counts : (g : ℕ → ℕ → ℕ) → g 0 0 ≡ 0 → {sent_rows : List Count} → sent_rows ≡ rows_of v.n (λ j p. v.S j (chosen line j) p)
        → rows_of v.n (λ a b. g (entry by_sender a b) (entry sent_rows a b))
        ≡ pair_rows v.n (λ a b. g (line_received v purpose a b) (line_sent v purpose a b))
    by_counts g none {sent_rows} sent =
        rows_ext v.n (λ a b. g (entry by_sender a b) (entry sent_rows a b))
        (λ a b. present v.n (λ p. g (line_received v purpose a p) (line_sent v purpose a p)) b) at
      where
        at : (a b : ℕ) → a < v.n → b < 16 → g (entry by_sender a b) (entry sent_rows a b)
            ≡ present v.n (λ p. g (line_received v purpose a p) (line_sent v purpose a p)) b
        at a b h m =
            elim (dec_lt b v.n) [
              | yes o ↦ rw (
                lt-ltb b v.n o,
                by_sender_is,
                sent ∙ sent_is,
                pair_at v.n few (taken_off v purpose) a b h o,
                pair_at v.n few (line_sent v purpose) a b h o,
              )
              | no o ↦ rw (
                le-ltb b v.n (omega arith),
                by_sender_is,
                sent ∙ sent_is,
                pair_none v.n few (taken_off v purpose) a b h (omega arith) m,
                pair_none v.n few (line_sent v purpose) a b h (omega arith) m,
              ) none
            ]

    pub resend_is : {sent_rows : List Count} → sent_rows ≡ rows_of v.n (λ j p. v.S j (chosen line j) p) → (resend : Resend)
        → resend.first ≡ rows_of v.n (λ a b. first_missing (entry by_sender a b) (entry sent_rows a b))
        → resend.last ≡ rows_of v.n (λ a b. last_missing (entry by_sender a b) (entry sent_rows a b))
        → resend ≡ resend_of v.n (planned v purpose)
    unfolding resend_of planned
    resend_is sent resend first last =
        let first_is = first ∙ by_counts first_missing refl sent in
        let last_is = last ∙ by_counts last_missing refl sent in
        λ i. record { first = first_is i; last = last_is i }

  pub order_is : (order : Order) → order.from ≡ line → order.resend ≡ resend_of v.n (planned v purpose)
      → order.before ≡ numbers v.n (λ j. chosen line j - 1)
      → order.after ≡ numbers v.n (λ j. pick (restarts purpose) (v.count j - chosen line j) 0)
      → order ≡ order_of v.n (planned v purpose)
  unfolding order_of planned
  order_is order from resend before after =
      let first = from ∙ is in
      let second = before ∙ by_line (λ j r. r - 1) in
      let third = after ∙ by_line (λ j r. pick (restarts purpose) (v.count j - r) 0) in
      λ i. record { from = first i; before = second i; after = third i; resend = resend i }

  pub plan_is : (plan : Plan) → plan.line ≡ line
      → plan.kept ≡ numbers v.n (λ j. pick (restarts purpose) 1 (v.count j - (chosen line j - 1)))
      → plan.off.received ≡ rows_of v.n (λ j p. v.R j (chosen line j) p)
      → plan.off.sent ≡ rows_of v.n (λ a b. entry plan.off.received b a)
      → plan.order ≡ order_of v.n (planned v purpose) → plan ≡ plan_of v.n (planned v purpose)
  unfolding plan_of planned
  plan_is plan first kept received across order =
      let line_is = first ∙ is in
      let kept_is = kept ∙ by_line (λ j r. pick (restarts purpose) 1 (v.count j - (r - 1))) in
      let by_receiver = by_receiver_is received across in
      let by_sender = by_sender_is received across in
      λ i. record { line = line_is i; kept = kept_is i; off = record { sent = by_sender i; received = by_receiver i }; order = order i }
