-- A write: when it answers a length, and what it leaves then.
use Rattle.std.specs.Prelude.{Ok}
use mathlib.Core.Path.{◌≡◌, ◌∙◌}
use mathlib.Core.List.{List, ◌++◌}
use Prim.Native.Nat.{ℕ, zero, suc, ◌≤◌}
use native.Mathlib.Nat.{zero-add}
use native.Mathlib.Omega.{arith}
use borrow.Author.Tests.{leb-true, le-leb}
use lib.ListN.{length, take, drop}
use lib.Seq.{sets, sets-eq, take_at}
use lib.Dec.{leb}
use Rattle.book.specs.Lent.{Tables}
use Rattle.book.specs.InTurn.{ask, answer_with}
use Rattle.book.specs.Check.{tables_question}
use Rattle.book.specs.Write.{bytes_of, write_question, answer_to_write, bytes_written}
use Rattle.book.proofs.Questions.{then_none, then_both, asked_yes, ask_yes, kept_passed}

length_answer : (q m long : ℕ) → answer_with q m ≡ Ok long → (q ≡ 0) × (m ≡ long)
unfolding answer_with
length_answer zero m long e = (cc, cc)
length_answer (suc q) m long e = let z : ◌≡◌ {A = ℕ} 0 1 = cc in absurd (omega arith)

module _ (t : Tables) (out : List ℕ) where
  abbrev bytes : List ℕ
  bytes = bytes_of t

  -- the last question
  abbrev from_room : Unit {0} → ℕ
  from_room _ = ask 17 (leb (length bytes) (length out))

  -- a length is answered where the tables pass and the buffer has room
  pub write_given : tables_question t ≡ 0 → length bytes ≤ length out → write_question t out ≡ 0
  unfolding write_question
  write_given h room =
      then_both (tables_question t) from_room h (ask_yes 17 (leb (length bytes) (length out)) (le-leb (length bytes) (length out) room))

  pub write_taken : write_question t out ≡ 0 → (tables_question t ≡ 0) × (length bytes ≤ length out)
  unfolding write_question
  write_taken h =
      let a = then_none (tables_question t) from_room h in
      (a.0, leb-true (length bytes) (length out) (asked_yes 16 (leb (length bytes) (length out)) a.1))

  pub answer_given : write_question t out ≡ 0 → answer_to_write t out ≡ Ok (length bytes)
  unfolding answer_to_write answer_with
  answer_given h = rw h

  pub answer_taken : (long : ℕ) → answer_to_write t out ≡ Ok long → (write_question t out ≡ 0) × (length bytes ≡ long)
  unfolding answer_to_write
  answer_taken long e = length_answer (write_question t out) (length bytes) long e

  -- the book's bytes begin the buffer, and the rest of it is as before
  pub buffer_left : write_question t out ≡ 0 → bytes_written t out ≡ bytes ++ drop (length bytes) out
  unfolding bytes_written
  buffer_left h =
      kept_passed (write_question t out) out (sets out 0 bytes) h
      ∙ rw (zero-add (length bytes)) at (sets-eq bytes out 0 (rw (zero-add (length bytes)) (write_taken h).1))

  pub bytes_left : (long : ℕ) → answer_to_write t out ≡ Ok long → take long (bytes_written t out) ≡ bytes
  bytes_left long e =
      let a = answer_taken long e in
      rw (buffer_left a.0) (take_at bytes (drop (length bytes) out) long a.1)
