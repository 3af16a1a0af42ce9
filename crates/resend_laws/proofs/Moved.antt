-- The list of the moved book's own order for purpose 2.
use mathlib.Core.Path.{◌≡◌, refl, sym, ap, ◌∙◌}
use mathlib.Core.Bool.{Bool, true, false}
use Prim.Native.Nat.{ℕ, ◌+◌, ◌-◌, ◌≤◌, ◌<◌}
use native.Mathlib.Decide.{dec_lt}
use native.Mathlib.Omega.{arith}
use borrow.Author.Tests.{lt-ltb, le-ltb}
use Rattle.lists.specs.Pick.{pick}
use Rattle.consistency.specs.Set.{chosen}
use Rattle.matrix.proofs.Rows.{entry_of_matrix}
use Rattle.restart.specs.declared.Resend.{Resend}
use Rattle.restart.specs.Plan.{first_missing, last_missing, planned}
use Rattle.restart.proofs.Orders.{move_passes, from_at}
use Rattle.resend.specs.Layout.{has_entry}
use Rattle.move_laws.specs.Moves.{Move, IsAccepted, view_after, order_with, again, tables_after}
use Rattle.move_laws.proofs.Theorems.{moved_is_accepted, none_received}
use Rattle.resend_laws.specs.Lists.{first_on, last_on, order_sent, order_received, counted_from_one}
use Rattle.resend_laws.proofs.Written.{zero_none}
use Rattle.resend_laws.proofs.Channels.{same_channels}
use Rattle.resend_laws.proofs.Orders.{matrix_length_lem, order_long, order_absent, first_is, last_is, entry_exactly, oldest_sent}

-- what was sent, of which nothing was received, said by an entry of f to l
from_one : (f l s : ℕ) → (has_entry f ≡ true → (s + f ≡ l + 1) × (f ≤ l)) → (has_entry f ≡ false → s ≡ 0)
    → (first_missing 0 s ≡ pick (has_entry f) 1 0) × (last_missing 0 s ≡ pick (has_entry f) (l + 1 - f) 0)
from_one f l s some none = go (has_entry f) refl
  where
    go : (t : Bool) → has_entry f ≡ t → (first_missing 0 s ≡ pick (has_entry f) 1 0) × (last_missing 0 s ≡ pick (has_entry f) (l + 1 - f) 0)
    go true e = let is = some e in let more : 0 < s = omega arith in rw (e, lt-ltb 0 s more) (refl, omega arith)
    go false e = rw (e, le-ltb 0 s (omega (arith, none e))) (refl, refl)

module _ (m : Move) (accepted : IsAccepted m) where
  abbrev n : ℕ
  n = m.tables.shape.n

  abbrev list : Resend
  list = (order_with m).resend

  abbrev next : Move
  next = again m 2

  pub again_accepted : IsAccepted (again m 2)
  again_accepted =
      let after = (moved_is_accepted m accepted).0 in
      record { sixteen = after.sixteen; passed = move_passes (tables_after m) 2 after.passed refl }

  abbrev list' : Resend
  list' = (order_with (again m 2)).resend

  -- on one channel, the same messages counted from 1
  abbrev Counted : ℕ → ℕ → Type 0
  Counted a b =
      (first_on list' a b ≡ pick (has_entry (first_on list a b)) 1 0)
      × (last_on list' a b ≡ pick (has_entry (first_on list a b)) (last_on list a b + 1 - first_on list a b) 0)

  same_size : next.tables.shape.n ≡ m.tables.shape.n
  same_size = (moved_is_accepted m accepted).1

  -- its checkpoints are the oldest
  oldest : (j : ℕ) → j < m.tables.shape.n → chosen (order_with next).from j ≡ 1
  unfolding planned
  oldest j h = from_at (tables_after m) 2 again_accepted.passed j (rw same_size h)

  module _ (a b : ℕ) (h : a < m.tables.shape.n) (o : b < m.tables.shape.n) where
    sent_now : order_sent next a b ≡ (view_after m).S a 1 b
    sent_now = ap (λ (r : ℕ). (view_after m).S a r b) (oldest a h)

    received_now : order_received next a b ≡ 0
    received_now = ap (λ (r : ℕ). (view_after m).R b r a) (oldest b o) ∙ none_received m b a accepted o h

    here : Counted a b
    here =
        let first : first_on list' a b ≡ first_missing 0 ((view_after m).S a 1 b)
        = first_is next again_accepted a b (rw same_size h) (rw same_size o)
        ∙ ap (λ (r : ℕ). first_missing r (order_sent next a b)) received_now
        ∙ ap (first_missing 0) sent_now in
        let last : last_on list' a b ≡ last_missing 0 ((view_after m).S a 1 b)
        = last_is next again_accepted a b (rw same_size h) (rw same_size o)
        ∙ ap (λ (r : ℕ). last_missing r (order_sent next a b)) received_now
        ∙ ap (last_missing 0) sent_now in
        let old = oldest_sent m a b accepted h o in
        let is = from_one (first_on list a b) (last_on list a b) ((view_after m).S a 1 b)
        (λ e. (old.0 e, let was = (entry_exactly m a b accepted h o).0 e in omega (arith, was.0, was.1, was.2))) old.1 in
        (first ∙ is.0, last ∙ is.1)

  there : (a b : ℕ) → a < 16 → b < 16 → (a < n → b < n → ⊥) → Counted a b
  there a b h o absent =
      let now' = order_absent next again_accepted a b h o (λ l l'. absent (rw same_size at l) (rw same_size at l')) in
      let none = zero_none (first_on list a b) (order_absent m accepted a b h o absent).0 in
      rw none (now'.0, now'.1)

  counted_at : (a b : ℕ) → a < 16 → b < 16
      → (first_on list' a b ≡ first_on (counted_from_one list) a b) × (last_on list' a b ≡ last_on (counted_from_one list) a b)
  counted_at a b h o =
      let first = entry_of_matrix (λ i j. pick (has_entry (first_on list i j)) 1 0) a b h o in
      let last = entry_of_matrix (λ i j. pick (has_entry (first_on list i j)) (last_on list i j + 1 - first_on list i j) 0) a b h o in
      let is : Counted a b
      = elim (dec_lt a n) [
        | yes l ↦ elim (dec_lt b n) [ yes l' ↦ here a b l l' | no none ↦ there a b h o (λ k k'. none k') ]
        | no none ↦ there a b h o (λ k k'. none k)
      ] in
      (is.0 ∙ sym first, is.1 ∙ sym last)

  pub moved_list : (order_with (again m 2)).resend ≡ counted_from_one (order_with m).resend
  moved_list =
      same_channels list' (counted_from_one list) (order_long next again_accepted)
      (record {
        firsts = matrix_length_lem (λ a b. pick (has_entry (first_on list a b)) 1 0);
        lasts = matrix_length_lem (λ a b. pick (has_entry (first_on list a b)) (last_on list a b + 1 - first_on list a b) 0);
      }) counted_at
