-- The list of a restart order, channel by channel.
use mathlib.Core.Path.{◌≡◌, refl, sym, ap, ◌∙◌}
use mathlib.Core.Bool.{true≢false}
use Prim.Native.Nat.{ℕ, ◌/◌, ◌%◌, ◌≤◌, ◌<◌}
use native.Mathlib.Decide.{dec_lt, ℕ_discrete}
use native.Mathlib.Omega.{arith}
use borrow.Author.Tests.{lt-ltb, le-ltb}
use lib.ListN.{length}
use Rattle.book.specs.declared.Count.{Count}
use Rattle.book.specs.Bounds.{largest}
use Rattle.book.proofs.Bounds.{mark_most}
use Rattle.lists.proofs.Over.{length_tab}
use Rattle.matrix.specs.Matrix.{as_matrix, entry}
use Rattle.matrix.proofs.Rows.{entry_of_matrix}
use Rattle.restart.specs.declared.Resend.{Resend}
use Rattle.restart.specs.Plan.{first_missing, last_missing, planned}
use Rattle.restart.specs.Values.{present, rows_of, pair_rows, resend_of}
use Rattle.restart.proofs.Orders as orders
use Rattle.move_laws.specs.Moves.{Move, IsAccepted, view_before, order_with}
use Rattle.move_laws.proofs.Tables.{plan_of_move, book_before, move_is_plan}
use Rattle.move_laws.proofs.Theorems.{sent_is_on_its_way}
use Rattle.resend_laws.specs.Lists.{IsList, first_on, last_on, order_sent, order_received}
use Rattle.resend_laws.specs.Statements.{EntryExactly, OldestSentIsSentAgain}
use Rattle.resend_laws.proofs.Taken.{IsLong}
use Rattle.resend_laws.proofs.Channels.{OnChannel, channels_list, missing_exactly, missing_channel}

-- ---- matrices

pub matrix_length_lem : (f : ℕ → ℕ → ℕ) → length (as_matrix f) ≡ 256
unfolding as_matrix
matrix_length_lem f = length_tab {A = Count} 256 (λ i. record { 0 = f (i / 16) (i % 16) })

-- absent processes have no entry
pair_none : (n : ℕ) (f : ℕ → ℕ → ℕ) (a b : ℕ) → a < 16 → b < 16 → (a < n → b < n → ⊥) → entry (pair_rows n f) a b ≡ 0
unfolding rows_of
pair_none n f a b h o absent =
    entry_of_matrix (λ j p. present n (λ i. present n (f i) p) j) a b h o
    ∙ elim (dec_lt a n) [
      | yes m ↦ rw (lt-ltb a n m, le-ltb b n (elim (dec_lt b n) [ yes l ↦ absurd (absent m l) | no l ↦ omega arith ]))
      | no m ↦ rw (le-ltb a n (omega arith))
    ]

pair_length : (n : ℕ) (f : ℕ → ℕ → ℕ) → length (pair_rows n f) ≡ 256
unfolding rows_of
pair_length n f = matrix_length_lem (λ j p. present n (λ i. present n (f i) p) j)

-- ---- the order

module _ (m : Move) (accepted : IsAccepted m) where
  abbrev n : ℕ
  n = m.tables.shape.n

  abbrev list : Resend
  list = (order_with m).resend

  resend_is : (order_with m).resend ≡ resend_of m.tables.shape.n (plan_of_move m)
  resend_is = orders.order_resend m.tables m.purpose accepted.passed

  pub order_long : IsLong (order_with m).resend
  unfolding resend_of
  order_long = rw resend_is (record { firsts = pair_length n (plan_of_move m).first; lasts = pair_length n (plan_of_move m).last })

  pub order_absent : (a b : ℕ) → a < 16 → b < 16 → (a < n → b < n → ⊥)
      → (first_on (order_with m).resend a b ≡ 0) × (last_on (order_with m).resend a b ≡ 0)
  unfolding resend_of
  order_absent a b h o absent = rw resend_is (pair_none n (plan_of_move m).first a b h o absent, pair_none n (plan_of_move m).last a b h o absent)

  -- of two processes that there are
  module _ (a b : ℕ) (h : a < m.tables.shape.n) (o : b < m.tables.shape.n) where
    sent_is : order_sent m a b ≡ (view_before m).S a ((plan_of_move m).line a) b
    sent_is = ap (λ (r : ℕ). (view_before m).S a r b) (orders.from_at m.tables m.purpose accepted.passed a h)

    received_is : order_received m a b ≡ (view_before m).R b ((plan_of_move m).line b) a
    received_is = ap (λ (r : ℕ). (view_before m).R b r a) (orders.from_at m.tables m.purpose accepted.passed b o)

    pub first_is : first_on (order_with m).resend a b ≡ first_missing (order_received m a b) (order_sent m a b)
    unfolding planned
    first_is =
        orders.first_at m.tables m.purpose accepted.passed a b h o
        ∙ sym (ap (λ (r : ℕ). first_missing r (order_sent m a b)) received_is
        ∙ ap (first_missing ((view_before m).R b ((plan_of_move m).line b) a)) sent_is)

    pub last_is : last_on (order_with m).resend a b ≡ last_missing (order_received m a b) (order_sent m a b)
    unfolding planned
    last_is =
        orders.last_at m.tables m.purpose accepted.passed a b h o
        ∙ sym (ap (λ (r : ℕ). last_missing r (order_sent m a b)) received_is
        ∙ ap (last_missing ((view_before m).R b ((plan_of_move m).line b) a)) sent_is)

    -- nothing goes to a process itself
    own_zero : a ≡ b → order_received m a b ≡ order_sent m a b
    own_zero e =
        let line = (move_is_plan m accepted).line in
        let own = (book_before m accepted).own a ((plan_of_move m).line a) h (line.some a h) (line.among a h) in
        received_is ∙ rw (← e) (own.1 ∙ sym own.0) ∙ sym sent_is

    -- no more was received than sent
    pub received_sent : order_received m a b ≤ order_sent m a b
    received_sent =
        elim (ℕ_discrete a b) [
          | yes e ↦ omega (arith, own_zero e)
          | no ne ↦ omega (arith, received_is, sent_is, (move_is_plan m accepted).pairwise b a o h (λ e. ne (sym e)))
        ]

    sent_most : order_sent m a b ≤ largest
    sent_most =
        let line = (move_is_plan m accepted).line in
        omega (arith, sent_is, mark_most, (book_before m accepted).below a ((plan_of_move m).line a) b h o (line.some a h) (line.among a h))

    order_here : OnChannel m.tables.shape.n a b (first_on (order_with m).resend a b) (last_on (order_with m).resend a b)
    order_here = rw (first_is, last_is) (missing_channel n a b (order_received m a b) (order_sent m a b) h o own_zero sent_most)

  pub order_is_list : IsList m.tables.shape.n (order_with m).resend
  order_is_list = channels_list n list order_long (λ a b h o.
      elim (dec_lt a n) [
        | yes there ↦ elim (dec_lt b n) [
          | yes there' ↦ order_here a b there there'
          | no none ↦ absent_on a b (order_absent a b h o (λ l l'. none l'))
        ]
        | no none ↦ absent_on a b (order_absent a b h o (λ l l'. none l))
      ])
    where
      absent_on : (a b : ℕ) → (first_on list a b ≡ 0) × (last_on list a b ≡ 0) → OnChannel n a b (first_on list a b) (last_on list a b)
      absent_on a b zeros = rw (zeros.0, zeros.1) (record { none = λ e. refl; some = λ e. absurd (true≢false (sym e)) })

-- an entry just where more was sent than received
pub entry_exactly : EntryExactly
entry_exactly m a b accepted h o =
    rw (first_is m accepted a b h o, last_is m accepted a b h o)
    (missing_exactly (order_received m a b) (order_sent m a b) (received_sent m accepted a b h o))

-- and as many messages as the oldest sent counter says afterwards
pub oldest_sent : OldestSentIsSentAgain
oldest_sent m a b accepted h o =
    let left = sent_is_on_its_way m a b accepted h o in
    let is = entry_exactly m a b accepted h o in
    (λ e. omega (arith, left, is.0 e), λ e. omega (arith, left, is.1 e))
