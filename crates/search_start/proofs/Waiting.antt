-- A search among two processes or more has begun: every participant is asked, and the first matrix is at or above what
-- everybody has sent.
use mathlib.Core.Path.{◌≡◌, refl, sym, ap, subst, ◌∙◌}
use mathlib.Core.Bool.{Bool, true, false}
use Prim.Native.Nat.{ℕ, zero, suc, ◌+◌, ◌-◌, ◌*◌, ◌≤◌, ◌<◌}
use native.Mathlib.Nat.{mul-add}
use native.Mathlib.Decide.{ℕ_discrete}
use native.Mathlib.Omega.{arith}
use borrow.Author.Tests.{eq-eqb, ne_eqb}
use lib.Dec.{eqb}
use Rattle.book.specs.Bounds.{mark, most_processes}
use Rattle.lists.specs.Over.{sum_to}
use Rattle.line_theory.specs.Sets.{newer_than}
use Rattle.lists.proofs.Over.{sum_ext, sum_le}
use Rattle.lists.specs.Pick.{pick}
use Rattle.matrix.specs.Matrix.{entry, is_pair, not_known_at}
use Rattle.mail.specs.Outgoing.{bytes_to}
use Rattle.machine.specs.Own.{Own}
use Rattle.machine_laws.specs.Own.{IsOwn}
use Rattle.machine_laws.proofs.Pairs.{is_pair_lem}
use Rattle.initiator_laws.proofs.Begun.{begun, begun_column}
use Rattle.exchange_laws.specs.Ends.{is_search}
use Rattle.exchange_laws.proofs.Heads.{search_in}
use Rattle.session.specs.Workers.{stands_on}
use Rattle.session_theory.proofs.Search.{Search, IsSearch, size, lead, is_part, own_in, view_in, line_in, sent_in, passed_in, Between, height}
use Rattle.session_theory.proofs.Invariant.{Phase, quiet, asked, weight, InPhase, Waits, Going, one}
use Rattle.session_theory.proofs.Moves.{begins}
use Rattle.session_theory.proofs.Facts.{few, own_is, book_is, lead_in}
use Rattle.session_theory.proofs.Counting.{count_parts}
use Rattle.search_start.proofs.Start.{started, none_delivered, placed}
use Rattle.search_start.proofs.Searching.{stands_newest, above_line}
use Rattle.search_start.proofs.Asked.{still_waiting, one_round, copy_first, is_asked}

-- ---- the first matrix

not_known_most : (n j p : ℕ) → not_known_at n j p ≤ mark
not_known_most n j p = go (is_pair n j p) refl
  where
    go : (t : Bool) → is_pair n j p ≡ t → not_known_at n j p ≤ mark
    go true e = rw e (omega arith)
    go false e = rw e (omega arith)

module _ (own : Own) (me : ℕ) (is : IsOwn own me) (j p : ℕ) (h : j < 16) (i : p < 16) where
  entry_own : j ≡ me → entry (begun own me) j p ≡ own.S own.count p
  entry_own e =
      begun_column own me p j h i ∙ ap (λ (t : Bool). pick t (own.S own.count p) (not_known_at own.n p j)) (eq-eqb j me e)

  entry_other : (j ≡ me → ⊥) → entry (begun own me) j p ≡ not_known_at own.n p j
  entry_other e =
      begun_column own me p j h i ∙ ap (λ (t : Bool). pick t (own.S own.count p) (not_known_at own.n p j)) (ne_eqb j me e)

  first_most : entry (begun own me) j p ≤ mark
  first_most = elim (ℕ_discrete j me) [
    | yes e ↦ omega (arith, entry_own e, is.below own.count p i is.some (omega arith))
    | no e ↦ rw (entry_other e) (not_known_most own.n p j)
  ]

-- ---- sums

-- the weight of what is on its way: two for each participant
asks : Bool → Phase
asks t = pick t asked quiet

weighs : (t : Bool) → weight (asks t) ≡ 2 * one t
unfolding asks
weighs true = refl
weighs false = refl

sum_twice : (k : ℕ) (f : ℕ → ℕ) → sum_to k (λ i. 2 * f i) ≡ 2 * sum_to k f
unfolding sum_to
sum_twice zero f = refl
sum_twice (suc k) f = let ih = sum_twice k f in omega arith

-- m (2 t + 5) deliveries are enough for m participants
enough : (m t : ℕ) → 0 + 2 * m + m * (2 * (t + 1) + 1) ≤ m * (2 * t + 5)
enough m t =
    let e : 2 * (t + 1) + 1 ≡ 2 * t + 3 = omega arith in
    rw e (omega (arith, mul-add m (2 * t) 3, mul-add m (2 * t) 5))

module _ (g : Search) (is : IsSearch g) (searches : is_search g.purpose ≡ true) (two : 2 ≤ size g) where
  other : eqb g.purpose 2 ≡ false
  other = (search_in g.purpose searches).1

  abbrev own : Own
  own = own_in g (lead g)

  own_here : IsOwn own (lead g)
  own_here = own_is g is (lead g) (lead_in g is)

  marked : (j p : ℕ) → j < 16 → p < 16 → entry (started g).machine.copy j p ≤ mark
  marked j p h i = rw (copy_first g is searches two) (first_most own (lead g) own_here j p h i)

  -- what a newest checkpoint has sent: known of the initiator, zero to itself, and otherwise below what is not known
  copied_first : (j p : ℕ) → j < size g → p < size g → sent_in g j ((view_in g).count j) p ≤ entry (begun own (lead g)) j p
  copied_first j p h i =
      let j_in : j < 16 = omega (arith, few g is) in
      let p_in : p < 16 = omega (arith, few g is) in
      elim (ℕ_discrete j (lead g)) [
        | yes e ↦ rw (entry_own own (lead g) own_here j p j_in p_in e, e) (omega arith)
        | no e ↦ elim (ℕ_discrete p j) [
          | yes same ↦
              let none : sent_in g j ((view_in g).count j) j ≡ 0 =
              ((book_is g is).own j ((view_in g).count j) h ((book_is g is).some j h) (omega arith)).0 in
              rw (same, none) (omega arith)
          | no differ ↦
              rw (entry_other own (lead g) own_here j p j_in p_in e, is_pair_lem (size g) p j i h differ)
              (omega (arith, (book_is g is).below j ((view_in g).count j) p h i ((book_is g is).some j h) (omega arith)))
        ]
      ]

  copied : (j p : ℕ) → j < size g → p < size g → sent_in g j (stands_on (started g) j) p ≤ entry (started g).machine.copy j p
  copied j p h i = rw (stands_newest g is other j h, copy_first g is searches two) (copied_first j p h i)

  -- no set from the line up is higher than the newest
  height_most : (c : ℕ → ℕ) → Between g c (stands_on (started g)) → height g c ≤ passed_in g
  unfolding newer_than
  height_most c between =
      sum_le (size g) (λ j. c j - line_in g j) (λ j. (view_in g).count j - line_in g j)
      (λ j h. omega (arith, between j h, stands_newest g is other j h))

  phase : ℕ → Phase
  phase k = asks (is_part g k)

  weights : sum_to most_processes (λ k. weight (phase k)) ≡ 2 * (size g - 1)
  unfolding phase
  weights =
      sum_ext 16 (λ k. weight (phase k)) (λ k. 2 * one (is_part g k)) (λ k h. weighs (is_part g k))
      ∙ (sum_twice 16 (λ k. one (is_part g k)) ∙ ap (λ (m : ℕ). 2 * m) (count_parts g is))

  waits : Waits g (started g) (bytes_to (begins g).outgoing) phase (passed_in g + 1)
  unfolding phase asks
  waits = record {
    placed = placed g is;
    waiting = still_waiting g is searches two;
    in_phase = λ k there. subst (λ (t : Bool). InPhase g (started g) k (bytes_to (begins g).outgoing k) (asks t)) (sym there)
        (is_asked g is searches two k there);
    rest = λ k h e. ap asks e;
    above = above_line g is other;
    copied = copied;
    marked = marked;
    falls = λ c between j p h i ne. omega (arith, height_most c between);
    rounds_left = omega (arith, one_round g is searches two);
    deliveries_left = rw (none_delivered g, weights) (enough (size g - 1) (passed_in g));
  }

  pub going : Going g (started g) (bytes_to (begins g).outgoing)
  going = (phase, passed_in g + 1, waits)
