-- The answers of the pass: a refusal says nothing of the tables, an acceptance has the shape and both tables.
use mathlib.Core.Path.{◌≡◌, sym, ap, ◌∙◌}
use mathlib.Core.List.{List}
use Prim.Native.Nat.{ℕ, ◌≤◌}
use native.Mathlib.Omega.{arith}
use Rattle.std.specs.Prelude.{Result, Ok, Err}
use Rattle.std.specs.Result.{IsErrAnd}
use Rattle.std.proofs.lemmas.Result.{err_from_is_err_and}
use Rattle.book.specs.declared.Question.{Question}
use Rattle.book.specs.declared.Shape.{Shape}
use Rattle.book.specs.Numbers.{number}
use Rattle.book.proofs.Refusals.{number_positive, refuses, accepts}
use Rattle.reader.specs.Parts.{failed, Taken}

pub positive : (e : Question) → number e ≡ 0 → ⊥
positive e z = let h : 1 ≤ number e = number_positive e in absurd (omega arith)

module _ {A : Type 0} where
  -- at the exit of a `?`
  pub exit : (r : Result A Question) {Q : Question → Type 0} (e : Question) → IsErrAnd r Q → ((f : Question) → Q f → f ≡ e) → r ≡ Err e
  exit r e was same = let p = err_from_is_err_and r was in p.1 ∙ ap Err (same p.0 p.2)

  pub fails : {r : Result A Question} {e : Question} → r ≡ Err e → failed r ≡ 0 → ⊥
  fails {r} {e} was z = positive e (sym (ap failed was) ∙ z)

  -- what is refused gives nothing
  pub gives_none : {r : Result A Question} {e : Question} {v : A} → r ≡ Err e → r ≡ Ok v → ⊥
  gives_none er was = fails er (ap failed was)

  pub same_value : {v w : A} → ◌≡◌ {A = Result A Question} (Ok v) (Ok w) → v ≡ w
  same_value e = cc

module _ (whole : ℕ) (shape : Shape) (sent₁ received₁ sent received : List ℕ) where
  pub taken_refused : (r : Result Shape Question) (e : Question) → r ≡ Err e → number e ≡ whole → Taken whole shape sent₁ received₁ r sent received
  taken_refused r e was is =
      let never : whole ≡ 0 → ⊥ = λ z. positive e (is ∙ z) in
      record {
        answered = rw was (refuses e shape (sym is));
        sent_read = λ z. absurd (never z);
        received_read = λ z. absurd (never z);
      }

  pub taken_passed : (z : Shape) → whole ≡ 0 → z ≡ shape → sent ≡ sent₁ → received ≡ received₁
      → Taken whole shape sent₁ received₁ (Ok z) sent received
  taken_passed z e ez es er = record { answered = accepts e ez; sent_read = λ _. es; received_read = λ _. er }
