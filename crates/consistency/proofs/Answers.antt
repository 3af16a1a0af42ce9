-- What an answer tells of the question, the pair or the partner that it stands for.
use mathlib.Core.Path.{◌≡◌, refl, sym, ap}
use mathlib.Core.Bool.{true≢false}
use mathlib.Core.Option as found
use Prim.Native.Nat.{ℕ, zero, suc}
use native.Mathlib.Omega.{arith}
use Rattle.std.specs.Prelude.{Option, Some, None, Result, Ok, Err, is_some, is_ok}
use Rattle.book.specs.declared.Process.{Process}
use Rattle.book.specs.InTurn.{answer_with}
use Rattle.book.proofs.Refusals.{refusing}
use Rattle.consistency.specs.Set.{shown_as}
use Rattle.consistency.specs.Known.{named_as}

-- ---- any call

abbrev value_or : {A : Type 0} → A → Result A ℕ → A
value_or d (Ok v) = v
value_or d (Err k) = d

pub tells_value : {A : Type 0} (q : ℕ) (v w : A) → answer_with q v ≡ Ok w → (q ≡ 0) × (v ≡ w)
unfolding answer_with
tells_value zero v w e = (refl, ap (value_or v) e)
tells_value (suc q) v w e = absurd (true≢false (sym (ap is_ok e)))

pub tells_refused : {A : Type 0} (q : ℕ) (v : A) (r : ℕ) → answer_with q v ≡ Err r → (q ≡ r) × (r ≡ 0 → ⊥)
unfolding answer_with
tells_refused zero v r e = absurd (true≢false (ap is_ok e))
tells_refused (suc q) v r e = let z : suc q ≡ r = ap refusing e in (z, λ none. absurd (omega arith))

-- ---- one checkpoint

-- 0 for nobody
abbrev partner_in : Option Process → Process
partner_in None = record { 0 = 0 }
partner_in (Some p) = p

-- the partner that was found
pub partner_named : (o : found.Option ℕ) (p : Process) → Some p ≡ named_as o
    → (q : ℕ) × (o ≡ found.some q) × (p ≡ record { 0 = suc q })
partner_named found.none p e = absurd (true≢false (ap is_some e))
partner_named (found.some q) p e = (q, refl, ap partner_in e)

pub nobody_named : (o : found.Option ℕ) → None ≡ named_as o → o ≡ found.none
nobody_named found.none e = refl
nobody_named (found.some q) e = absurd (true≢false (sym (ap is_some e)))

pub tells_permitted : (q : ℕ) (o : found.Option ℕ) → answer_with q (named_as o) ≡ Ok None → (q ≡ 0) × (o ≡ found.none)
tells_permitted q o e =
    let (passed, named) = tells_value q (named_as o) None e in
    (passed, nobody_named o (sym named))

pub tells_offends : (q : ℕ) (o : found.Option ℕ) (p : Process) → answer_with q (named_as o) ≡ Ok (Some p)
    → (q ≡ 0) × ((i : ℕ) × (o ≡ found.some i) × (p.0 ≡ suc i))
tells_offends q o p e =
    let (passed, named) = tells_value q (named_as o) (Some p) e in
    let (i, at, is) = partner_named o p (sym named) in
    (passed, (i, at, ap (λ (x : Process). x.0) is))

-- ---- a set

abbrev first : Option (Process × Process) → ℕ
first None = 0
first (Some pair) = pair.0.0

abbrev second : Option (Process × Process) → ℕ
second None = 0
second (Some pair) = pair.1.0

-- the pair that was found, numbered from 0
pub record IsShown (q : ℕ) (o : found.Option (ℕ × ℕ)) (j p : Process) : Type 0 where
  pub passed : q ≡ 0
  pub pair : ℕ × ℕ
  pub found : o ≡ found.some pair
  pub first_is : j.0 ≡ suc pair.0
  pub second_is : p.0 ≡ suc pair.1

pub tells_consistent : (q : ℕ) (o : found.Option (ℕ × ℕ)) → answer_with q (shown_as o) ≡ Ok None → (q ≡ 0) × (o ≡ found.none)
tells_consistent q found.none e = ((tells_value q (shown_as found.none) None e).0, refl)
tells_consistent q (found.some pair) e =
    absurd (true≢false (ap is_some (tells_value q (shown_as (found.some pair)) None e).1))

pub tells_fault : (q : ℕ) (o : found.Option (ℕ × ℕ)) (j p : Process) → answer_with q (shown_as o) ≡ Ok (Some (j, p)) → IsShown q o j p
tells_fault q found.none j p e = absurd (true≢false (sym (ap is_some (tells_value q (shown_as found.none) (Some (j, p)) e).1)))
tells_fault q (found.some pair) j p e =
    let (passed, shown) = tells_value q (shown_as (found.some pair)) (Some (j, p)) e in
    record { passed = passed; pair = pair; found = refl; first_is = sym (ap first shown); second_is = sym (ap second shown) }
