-- Two processes that there are, and what is no pair of them.
use mathlib.Core.Path.{◌≡◌, refl, sym, ap, ◌∙◌}
use mathlib.Core.Bool.{Bool, true, false, not, ◌&&◌, true≢false, and-false}
use Prim.Native.Nat.{ℕ, ◌≤◌, ◌<◌}
use native.Mathlib.Decide.{ℕ_discrete}
use borrow.Author.Tests.{ltb-true, lt-ltb, le-ltb, eqb-false, eq-eqb, ne_eqb, not-true}
use lib.Dec.{ltb, eqb}
use Rattle.lists.proofs.Tests.{and_both}
use Rattle.matrix.specs.Matrix.{is_pair}

-- two processes that there are and that differ are a pair
pub is_pair_lem : (n j p : ℕ) → j < n → p < n → (j ≡ p → ⊥) → is_pair n j p ≡ true
is_pair_lem n j p h m ne = rw (lt-ltb j n h, lt-ltb p n m, ne_eqb j p ne)

pub pair_in : (n j p : ℕ) → is_pair n j p ≡ true → (p < n) × (j ≡ p → ⊥)
pair_in n j p h =
    let a = and_both (ltb j n) (ltb p n && not (eqb j p)) h in
    let b = and_both (ltb p n) (not (eqb j p)) a.1 in
    (ltb-true p n b.0, eqb-false j p (not-true (eqb j p) b.1))

pub absent_no_pair : (n j p : ℕ) → n ≤ p → is_pair n j p ≡ false
absent_no_pair n j p h = rw (le-ltb p n h) (and-false (ltb j n))

pub self_no_pair : (n j : ℕ) → is_pair n j j ≡ false
self_no_pair n j = rw (eq-eqb j j refl, and-false (ltb j n)) (and-false (ltb j n))

-- what is no pair with a process that there is, is absent or the process itself
pub no_pair : (n j p : ℕ) → j < n → is_pair n j p ≡ false → p < n → p ≡ j
no_pair n j p h none m =
    elim (ℕ_discrete p j) [ yes e ↦ e | no ne ↦ absurd (true≢false (sym (is_pair_lem n j p h m (λ e. ne (sym e))) ∙ none)) ]

pub pair_sym : (n j p : ℕ) → is_pair n j p ≡ is_pair n p j
pair_sym n j p = ap (λ (t : Bool). ltb j n && (ltb p n && not t)) (eqb_sym j p) ∙ turned (ltb j n) (ltb p n) (not (eqb p j))
  where
    turned : (a b c : Bool) → (a && (b && c)) ≡ (b && (a && c))
    turned true b c = refl
    turned false true c = refl
    turned false false c = refl

    eqb_sym : (j p : ℕ) → eqb j p ≡ eqb p j
    eqb_sym j p = elim (ℕ_discrete j p) [
      | yes e ↦ eq-eqb j p e ∙ sym (eq-eqb p j (sym e))
      | no ne ↦ ne_eqb j p ne ∙ sym (ne_eqb p j (λ e. ne (sym e)))
    ]
