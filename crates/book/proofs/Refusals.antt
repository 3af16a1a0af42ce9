-- What a call's answer says of the questions that it puts, and what these say of the answer.
use mathlib.Core.Path.{◌≡◌, refl, sym, ap, subst, ◌∙◌}
use Prim.Native.Nat.{ℕ, zero, suc, ◌≤◌}
use native.Mathlib.Omega.{arith}
use Rattle.std.specs.Prelude.{Result, Ok, Err}
use Rattle.std.specs.Result.{IsErrAnd}
use Rattle.std.proofs.lemmas.Result.{err_from_is_err_and}
use Rattle.book.specs.declared.Question.{Question}
use Rattle.book.specs.declared.Question.TheVariants.{BookBytes, TableEntries, Number, Processes, Checkpoints, Mark, OldestZero, NoLower, Unused, Named, Purpose, Exists, StateFits, MessageFormed, Awaited, Lower, Room, Waiting, EventFormed, Underway, ListFormed}
use Rattle.book.specs.InTurn.{answer_with}
use Rattle.book.specs.Numbers.{number, by_number}

-- no question has the number 0
pub number_positive : (e : Question) → 1 ≤ number e
number_positive BookBytes = omega arith
number_positive TableEntries = omega arith
number_positive Number = omega arith
number_positive Processes = omega arith
number_positive Checkpoints = omega arith
number_positive Mark = omega arith
number_positive OldestZero = omega arith
number_positive NoLower = omega arith
number_positive Unused = omega arith
number_positive Named = omega arith
number_positive Purpose = omega arith
number_positive Exists = omega arith
number_positive StateFits = omega arith
number_positive MessageFormed = omega arith
number_positive Awaited = omega arith
number_positive Lower = omega arith
number_positive Room = omega arith
number_positive Waiting = omega arith
number_positive EventFormed = omega arith
number_positive Underway = omega arith
number_positive ListFormed = omega arith

-- the number of the question that refuses, 0 for none
abbrev pub refusing : {A : Type 0} → Result A ℕ → ℕ
refusing (Ok v) = 0
refusing (Err k) = k

abbrev value_or : {A : Type 0} → A → Result A ℕ → A
value_or d (Ok v) = v
value_or d (Err k) = d

module _ {A : Type 0} where
  refusing_with : (q : ℕ) (v : A) → refusing (answer_with q v) ≡ q
  unfolding answer_with
  refusing_with zero v = refl
  refusing_with (suc q) v = refl

  value_with : (q : ℕ) (v : A) → value_or v (answer_with q v) ≡ v
  unfolding answer_with
  value_with zero v = refl
  value_with (suc q) v = refl

  with_positive : (q : ℕ) (v : A) → 1 ≤ q → Err q ≡ answer_with q v
  unfolding answer_with
  with_positive zero v h = absurd (omega arith)
  with_positive (suc q) v h = refl

  -- ---- what an answer says

  asked : (r : Result A Question) (q : ℕ) (v : A) → by_number r ≡ answer_with q v → refusing (by_number r) ≡ q
  asked r q v answered = ap refusing answered ∙ refusing_with q v

  -- the question that a call puts is the one that refuses
  pub refused_by : {r : Result A Question} {e : Question} (q : ℕ) (v : A) → by_number r ≡ answer_with q v → r ≡ Err e → q ≡ number e
  refused_by {r} q v answered is = sym (asked r q v answered) ∙ ap (λ (s : Result A Question). refusing (by_number s)) is

  pub is_refused : {r : Result A Question} {e : Question} (q : ℕ) (v : A) → by_number r ≡ answer_with q v → r ≡ Err e → q ≡ 0 → ⊥
  is_refused {r} {e} q v answered is z =
      let h : 1 ≤ number e = number_positive e in
      let f : q ≡ number e = refused_by q v answered is in
      absurd (omega arith)

  -- no question fails, and the value is the call's
  pub is_accepted : {r : Result A Question} {w : A} (q : ℕ) (v : A) → by_number r ≡ answer_with q v → r ≡ Ok w → q ≡ 0
  is_accepted {r} q v answered is = sym (asked r q v answered) ∙ ap (λ (s : Result A Question). refusing (by_number s)) is

  pub value_is : {r : Result A Question} {w : A} (q : ℕ) (v : A) → by_number r ≡ answer_with q v → r ≡ Ok w → w ≡ v
  value_is {r} {w} q v answered is =
      subst (λ (s : Result A Question). value_or v (by_number s) ≡ v) is (ap (value_or v) answered ∙ value_with q v)

  -- ---- what the questions say of the answer

  pub refuses : (e : Question) {q : ℕ} (v : A) → q ≡ number e → by_number (Err e) ≡ answer_with q v
  refuses e v is = rw is (with_positive (number e) v (number_positive e))

  pub accepts : {q : ℕ} {w v : A} → q ≡ 0 → w ≡ v → by_number {A = A} (Ok w) ≡ answer_with q v
  unfolding answer_with
  accepts z is = rw (z, is)

  -- at the exit of a `?`: the question is handed on as it came
  pub hands_on : (r : Result A Question) {Q : Question → Type 0} (e : Question) {q : ℕ} (v : A) → IsErrAnd r Q → ((f : Question) → Q f → f ≡ e)
      → q ≡ number e → by_number r ≡ answer_with q v
  hands_on r e v failed same is =
      let p = err_from_is_err_and r failed in
      rw (p.1, same p.0 p.2) (refuses e v is)
