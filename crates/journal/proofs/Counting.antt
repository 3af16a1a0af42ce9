-- Events counted: over a list and one event more, and what is underway.
use mathlib.Core.Path.{◌≡◌, sym, ap, ◌∙◌}
use mathlib.Core.Bool.{Bool, true, false, not, ◌&&◌}
use mathlib.Core.List.{List, [], ◌∷◌, ◌++◌}
use Prim.Native.Nat.{ℕ, zero, suc, ◌+◌, ◌-◌, ◌≤◌}
use native.Mathlib.Nat.{add-zero, add_assoc}
use native.Mathlib.Omega.{arith}
use native.Mathlib.Decide.{dec_le, ℕ_discrete}
use lib.ListN.{length}
use lib.Dec.{leb, eqb}
use borrow.Author.Tests.{le-leb, lt-leb, eq-eqb, ne_eqb}
use Rattle.lists.specs.Over.{sum_to}
use Rattle.lists.specs.Pick.{pick}
use Rattle.lists.proofs.Tests.{both_and, and_first, and_second}
use Rattle.journal.specs.declared.Event.{Event}
use Rattle.journal.specs.Counting.{how_many, sendings, receipts, underway}

-- ---- process and partner of an event

-- two numbers are two others, or not
pub pair_yes : (x y a b : ℕ) → x ≡ a → y ≡ b → (eqb x a && eqb y b) ≡ true
pair_yes x y a b e f = both_and (eqb x a) (eqb y b) (eq-eqb x a e) (eq-eqb y b f)

pub pair_no : (x y a b : ℕ) → (x ≡ a → y ≡ b → ⊥) → (eqb x a && eqb y b) ≡ false
pair_no x y a b ne =
    elim (ℕ_discrete x a) [
      | yes e ↦ and_second (eqb x a) (eqb y b) (ne_eqb y b (ne e))
      | no other ↦ and_first (eqb x a) (eqb y b) (ne_eqb x a other)
    ]

-- ---- how many events are such

pub how_many_append : (such : Event → Bool) (a b : List Event) → how_many such (a ++ b) ≡ how_many such a + how_many such b
unfolding how_many
how_many_append such [] b = omega arith
how_many_append such (e ∷ a) b = rw (how_many_append such a b) (sym (add_assoc (pick (such e) 1 0) (how_many such a) (how_many such b)))

-- after one event more
pub how_many_last : (such : Event → Bool) (es : List Event) (e : Event) → how_many such (es ++ e ∷ []) ≡ how_many such es + pick (such e) 1 0
unfolding how_many
how_many_last such es e = how_many_append such es (e ∷ []) ∙ ap (λ (k : ℕ). how_many such es + k) (add-zero (pick (such e) 1 0))

pub one_more_lem : (such : Event → Bool) (es : List Event) (e : Event) → such e ≡ true → how_many such (es ++ e ∷ []) ≡ how_many such es + 1
one_more_lem such es e is = how_many_last such es e ∙ rw is

pub no_more : (such : Event → Bool) (es : List Event) (e : Event) → such e ≡ false → how_many such (es ++ e ∷ []) ≡ how_many such es
no_more such es e is = how_many_last such es e ∙ rw is (add-zero (how_many such es))

one_at_most : (t : Bool) → pick t 1 0 ≤ 1
one_at_most true = omega arith
one_at_most false = omega arith

-- no more than there are events
pub how_many_few : (such : Event → Bool) (es : List Event) → how_many such es ≤ length es
unfolding how_many
how_many_few such [] = omega arith
how_many_few such (e ∷ es) = omega (arith, how_many_few such es, one_at_most (such e))

-- ---- what is underway

-- of the first i sendings those after the last receipt
underway_to : (sent received i : ℕ) → i ≤ sent → sum_to i (λ k. pick (leb (suc k) sent && not (leb (suc k) received)) 1 0) ≡ i - received
unfolding sum_to
underway_to sent received zero h = omega arith
underway_to sent received (suc i) h =
    let before = underway_to sent received i (omega arith) in
    elim (dec_le (suc i) received) [
      | yes m ↦ rw (le-leb (suc i) sent h, le-leb (suc i) received m) (omega (arith, before))
      | no m ↦ rw (le-leb (suc i) sent h, lt-leb (suc i) received (omega arith)) (omega (arith, before))
    ]

-- what was sent and not received
pub underway_is : (p j : ℕ) (es : List Event) → underway p j es ≡ sendings p j es - receipts j p es
unfolding underway
underway_is p j es = underway_to (sendings p j es) (receipts j p es) (sendings p j es) (omega arith)
