-- Questions put in turn: what is known once one of them was answered.
use mathlib.Core.Path.{◌≡◌, refl, ◌∙◌}
use mathlib.Core.Bool.{Bool, true, false}
use Prim.Native.Nat.{ℕ, zero, suc}
use native.Mathlib.Omega.{arith}
use Rattle.std.specs.Prelude.{Ok, Err}
use Rattle.book.specs.InTurn.{◌then◌, ask, answer_with, unless_refused}

-- a question that does not fail leaves the answer to the later ones
pub then_passed : (q : ℕ) (later : Unit {0} → ℕ) → q ≡ 0 → (q then later) ≡ later tt
then_passed q later h = rw h

-- one that fails is the answer
pub then_refused : (q : ℕ) (later : Unit {0} → ℕ) → (q ≡ 0 → ⊥) → (q then later) ≡ q
then_refused zero later h = absurd (h refl)
then_refused (suc q) later h = refl

-- none fails exactly when neither part has one that fails
pub then_none : (q : ℕ) (later : Unit {0} → ℕ) → (q then later) ≡ 0 → (q ≡ 0) × (later tt ≡ 0)
then_none zero later h = (refl, h)
then_none (suc q) later h = absurd (omega arith)

pub then_both : (q : ℕ) (later : Unit {0} → ℕ) → q ≡ 0 → later tt ≡ 0 → (q then later) ≡ 0
then_both q later h k = then_passed q later h ∙ k

pub then_assoc : (q : ℕ) (f g : Unit {0} → ℕ) → ((q then f) then g) ≡ (q then λ _. (f tt then g))
then_assoc zero f g = refl
then_assoc (suc q) f g = refl

pub ask_yes : (k : ℕ) (b : Bool) → b ≡ true → ask k b ≡ 0
ask_yes k b h = rw h

pub ask_no : (k : ℕ) (b : Bool) → b ≡ false → ask k b ≡ k
ask_no k b h = rw h

-- a question that does not fail was answered yes
pub asked_yes : (k : ℕ) (b : Bool) → ask (suc k) b ≡ 0 → b ≡ true
asked_yes k true h = refl
asked_yes k false h = absurd (omega arith)

pub answer_passed : {A : Type 0} (q : ℕ) (v : A) → q ≡ 0 → answer_with q v ≡ Ok v
unfolding answer_with
answer_passed q v h = rw h

pub answer_refused : {A : Type 0} (q : ℕ) (v : A) → (q ≡ 0 → ⊥) → answer_with q v ≡ Err q
unfolding answer_with
answer_refused zero v h = absurd (h refl)
answer_refused (suc q) v h = refl

pub kept_passed : {A : Type 0} (q : ℕ) (before now : A) → q ≡ 0 → unless_refused q before now ≡ now
kept_passed q before now h = rw h

pub kept_refused : {A : Type 0} (q : ℕ) (before now : A) → (q ≡ 0 → ⊥) → unless_refused q before now ≡ before
kept_refused zero before now h = absurd (h refl)
kept_refused (suc q) before now h = refl
