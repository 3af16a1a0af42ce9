-- A call's questions, put in turn: which of them answers, and what the call hands back then.
use mathlib.Core.Path.{◌≡◌, refl, ap, sym, ◌∙◌}
use mathlib.Core.Bool.{Bool, true, false}
use mathlib.Core.List.{List}
use Prim.Native.Nat.{ℕ, ◌≤◌}
use native.Mathlib.Omega.{arith}
use Rattle.std.specs.Prelude.{Result, Ok, Err}
use Rattle.std.specs.Result.{IsErrAnd}
use Rattle.std.proofs.lemmas.Result.{err_from_is_err_and}
use Rattle.book.specs.declared.Question.{Question}
use Rattle.book.specs.InTurn.{◌then◌, ask, answer_with}
use Rattle.book.specs.Numbers.{number, by_number}
use Rattle.book.proofs.Questions.{then_passed, then_refused, ask_yes, ask_no, kept_refused}
use Rattle.book.proofs.Refusals.{number_positive, refuses, accepts}
use Rattle.mail.specs.declared.Outgoing.{Outgoing}
use Rattle.mail.specs.Outgoing.{room_question, sent_bytes}

-- ---- three tests

-- a test that fails is a question that does
failed : (k : ℕ) (b : Bool) → 1 ≤ k → b ≡ false → ask k b ≡ 0 → ⊥
failed k b some h z = let e : k ≡ 0 = sym (ask_no k b h) ∙ z in absurd (omega arith)

module _ (i j k : ℕ) (a b c : Bool) where
  abbrev tests : ℕ
  tests = ask i a then λ _. ask j b then λ _. ask k c

  pub first_no : 1 ≤ i → a ≡ false → i ≡ tests
  first_no some h = sym (then_refused (ask i a) (λ _. ask j b then λ _. ask k c) (failed i a some h) ∙ ask_no i a h)

  after_first : a ≡ true → tests ≡ (ask j b then λ _. ask k c)
  after_first h = then_passed (ask i a) (λ _. ask j b then λ _. ask k c) (ask_yes i a h)

  pub second_no : a ≡ true → 1 ≤ j → b ≡ false → j ≡ tests
  second_no h some l = sym (after_first h ∙ then_refused (ask j b) (λ _. ask k c) (failed j b some l) ∙ ask_no j b l)

  after_second : a ≡ true → b ≡ true → tests ≡ ask k c
  after_second h l = after_first h ∙ then_passed (ask j b) (λ _. ask k c) (ask_yes j b l)

  pub third_no : a ≡ true → b ≡ true → c ≡ false → k ≡ tests
  third_no h l m = sym (after_second h l ∙ ask_no k c m)

  pub all_yes : a ≡ true → b ≡ true → c ≡ true → 0 ≡ tests
  all_yes h l m = sym (after_second h l ∙ ask_yes k c m)

-- ---- four questions

module _ (p q r s : ℕ) where
  abbrev four : ℕ
  four = p then λ _. q then λ _. r then λ _. s

  by_first : (p ≡ 0 → ⊥) → four ≡ p
  by_first h = then_refused p (λ _. q then λ _. r then λ _. s) h

  past_first : p ≡ 0 → four ≡ (q then λ _. r then λ _. s)
  past_first h = then_passed p (λ _. q then λ _. r then λ _. s) h

  by_second : p ≡ 0 → (q ≡ 0 → ⊥) → four ≡ q
  by_second h l = past_first h ∙ then_refused q (λ _. r then λ _. s) l

  past_second : p ≡ 0 → q ≡ 0 → four ≡ (r then λ _. s)
  past_second h l = past_first h ∙ then_passed q (λ _. r then λ _. s) l

  by_third : p ≡ 0 → q ≡ 0 → (r ≡ 0 → ⊥) → four ≡ r
  by_third h l m = past_second h l ∙ then_refused r (λ _. s) m

  by_last : p ≡ 0 → q ≡ 0 → r ≡ 0 → four ≡ s
  by_last h l m = past_second h l ∙ then_passed r (λ _. s) m

-- ---- what a call that sends hands back

-- the question at the exit of a `?`
pub err_is : {B : Type 0} {Q : Question → Type 0} (r : Result B Question) (e : Question) → IsErrAnd r Q → ((f : Question) → Q f → f ≡ e) → r ≡ Err e
err_is {B} r e was same =
    let p = err_from_is_err_and r was in
    let g : Question → Result B Question = λ f. Err f in
    p.1 ∙ ap g (same p.0 p.2)

-- a question that refuses is one that fails
fails : (e : Question) (q : ℕ) → q ≡ number e → q ≡ 0 → ⊥
fails e q is z = let h : 1 ≤ number e = number_positive e in absurd (omega arith)

-- the questions of a call that puts three and then that of the room, the value that stands beside no refusal, what its step
-- sends, and the buffer
module _ {B : Type 0} (p q r : ℕ) (value : B) (o : Outgoing) (out : List ℕ) where
  abbrev room : ℕ
  room = room_question o out

  abbrev question : ℕ
  question = p then λ _. q then λ _. r then λ _. room

  abbrev pub Answered : Result B Question → List ℕ → Type 0
  Answered answer bytes = (by_number answer ≡ answer_with question value) × (bytes ≡ sent_bytes question o out)

  -- "a refusal returns only that number and changes nothing"
  stopped : (answer : Result B Question) (e : Question) (bytes : List ℕ) → answer ≡ Err e → question ≡ number e → bytes ≡ out → Answered answer bytes
  stopped answer e bytes a is b = (
    rw a (refuses e value is),
    b ∙ sym (kept_refused question out _ (fails e question is)),
  )

  module _ (answer : Result B Question) (e : Question) (is : answer ≡ Err e) where
    pub at_first : p ≡ number e → Answered answer out
    at_first k = stopped answer e out is (by_first p q r room (fails e p k) ∙ k) refl

    pub at_second : p ≡ 0 → q ≡ number e → Answered answer out
    at_second h k = stopped answer e out is (by_second p q r room h (fails e q k) ∙ k) refl

    pub at_third : p ≡ 0 → q ≡ 0 → r ≡ number e → Answered answer out
    at_third h l k = stopped answer e out is (by_third p q r room h l (fails e r k) ∙ k) refl

    -- where the room does not suffice the buffer stays as it was
    pub at_room : (bytes : List ℕ) → p ≡ 0 → q ≡ 0 → r ≡ 0 → room ≡ number e → bytes ≡ sent_bytes room o out → Answered answer bytes
    at_room bytes h l m k b =
        stopped answer e bytes is (by_last p q r room h l m ∙ k)
        (b ∙ kept_refused room out _ (fails e room k))

  -- the messages are sent
  pub at_end : (v : B) (bytes : List ℕ) → p ≡ 0 → q ≡ 0 → r ≡ 0 → room ≡ 0 → v ≡ value → bytes ≡ sent_bytes room o out → Answered (Ok v) bytes
  at_end v bytes h l m k is b =
      let last : question ≡ room = by_last p q r room h l m in (
        accepts (last ∙ k) is,
        b ∙ ap (λ (x : ℕ). sent_bytes x o out) (sym last),
      )
