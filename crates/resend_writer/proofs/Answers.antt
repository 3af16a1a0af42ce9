-- The answer to a write, and the buffer afterwards, by what led to them.
use mathlib.Core.Path.{◌≡◌, sym, ap, ◌∙◌}
use mathlib.Core.List.{List}
use Prim.Native.Nat.{ℕ, ◌≤◌, ◌<◌}
use native.Mathlib.Omega.{arith}
use borrow.Author.Tests.{le-leb, lt-leb}
use lib.ListN.{length}
use lib.Seq.{sets}
use lib.Dec.{leb}
use Rattle.std.specs.Prelude.{Result}
use Rattle.book.specs.Lent.{Tables}
use Rattle.book.specs.InTurn.{ask, answer_with}
use Rattle.book.proofs.Questions.{then_passed, then_refused, ask_yes, ask_no, kept_passed, kept_refused}
use Rattle.restart.specs.declared.Order.{Order}
use Rattle.restart.specs.Calls.{move_question, order_given}
use Rattle.resend.specs.Layout.{list_bytes}
use Rattle.resend.specs.Calls.{bytes_to_resend, write_list_question, answer_to_write_list, list_written}

module _ (t : Tables) (purpose : ℕ) (out : List ℕ) where
  abbrev long : ℕ
  long = length (bytes_to_resend t purpose)

  abbrev room : Unit {0} → ℕ
  room _ = ask 17 (leb (length (bytes_to_resend t purpose)) (length out))

  pub answered : {r : Result ℕ ℕ} → r ≡ answer_with (write_list_question t purpose out) (length (bytes_to_resend t purpose))
      → r ≡ answer_to_write_list t purpose out
  unfolding answer_to_write_list
  answered e = e

  -- a question fails: the buffer is unchanged
  unchanged : (write_list_question t purpose out ≡ 0 → ⊥) → out ≡ list_written t purpose out
  unfolding list_written
  unchanged some = sym (kept_refused (write_list_question t purpose out) out (sets out 0 (bytes_to_resend t purpose)) some)

  -- one of the order does
  pub refused : (move_question t purpose ≡ 0 → ⊥)
      → (write_list_question t purpose out ≡ move_question t purpose) × (out ≡ list_written t purpose out)
  unfolding write_list_question
  refused some =
      let e : write_list_question t purpose out ≡ move_question t purpose = then_refused (move_question t purpose) room some in
      (e, unchanged (λ z. some (sym e ∙ z)))

  -- none does
  module _ (passed : move_question t purpose ≡ 0) {order : Order} (is : order ≡ order_given t purpose) where
    same_bytes : list_bytes order.resend ≡ bytes_to_resend t purpose
    same_bytes = ap (λ (o : Order). list_bytes o.resend) is

    -- question 17 fails
    pub full : {size : ℕ} → size ≡ length (list_bytes order.resend) → length out < size
        → (write_list_question t purpose out ≡ 17) × (out ≡ list_written t purpose out)
    unfolding write_list_question
    full f h =
        let e : write_list_question t purpose out ≡ 17
        = then_passed (move_question t purpose) room passed
        ∙ ask_no 17 (leb long (length out)) (lt-leb long (length out) (omega (arith, f, ap length same_bytes))) in
        (e, unchanged (λ z. absurd (omega arith)))

    -- and that one does not either
    pub written : {size : ℕ} {out' : List ℕ} → size ≤ length out → size ≡ length (list_bytes order.resend)
        → out' ≡ sets out 0 (list_bytes order.resend)
        → (write_list_question t purpose out ≡ 0) × ((size ≡ length (bytes_to_resend t purpose)) × (out' ≡ list_written t purpose out))
    unfolding write_list_question list_written
    written {size} h sized put =
        let e : write_list_question t purpose out ≡ 0
        = then_passed (move_question t purpose) room passed
        ∙ ask_yes 17 (leb long (length out)) (le-leb long (length out) (omega (arith, sized, ap length same_bytes))) in (
          e,
          (
            sized ∙ ap length same_bytes,
            put ∙ ap (sets out 0) same_bytes
                ∙ sym (kept_passed (write_list_question t purpose out) out (sets out 0 (bytes_to_resend t purpose)) e),
          ),
        )
