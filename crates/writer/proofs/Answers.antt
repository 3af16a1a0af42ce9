-- The answer to a write by the tests that led to it, and what holds of tables that no question refuses.
use mathlib.Core.Path.{◌≡◌, refl, sym, ap, ◌∙◌}
use mathlib.Core.Bool.{Bool, true, false, ◌&&◌}
use mathlib.Core.List.{List}
use Prim.Native.Nat.{ℕ, suc, ◌≤◌}
use native.Mathlib.Omega.{arith}
use borrow.Author.Tests.{eqb-true, leb-true}
use lib.ListN.{length, take}
use lib.Seq.{sets}
use lib.Dec.{eqb, leb}
use Rattle.std.specs.Prelude.{Ok, Err}
use Rattle.book.specs.Lent.{Tables}
use Rattle.book.specs.declared.Question.TheVariants.{Room}
use Rattle.book.specs.Numbers.{by_number}
use Rattle.book.specs.View.{sum}
use Rattle.book.specs.InTurn.{ask, answer_with}
use Rattle.book.specs.Questions.{size_question, length_question}
use Rattle.book.specs.Check.{counts_question, contents_question, tables_question}
use Rattle.book.specs.Write.{bytes_of, write_question, answer_to_write, bytes_written}
use Rattle.book.specs.Fits.{BookFits}
use Rattle.book.proofs.Questions.{then_refused, then_none, asked_yes, kept_refused}
use Rattle.book.proofs.Counts.{counts_few}

-- a question of two parts that does not fail
both_yes : (k : ℕ) (a b : Bool) → ask (suc k) (a && b) ≡ 0 → (a ≡ true) × (b ≡ true)
both_yes k true b h = (refl, asked_yes k b h)
both_yes k false b h = absurd (omega arith)

module _ (t : Tables) where
  -- where no question refuses the tables, the rows of all processes lie in them
  pub accepted : tables_question t ≡ 0
      → BookFits t.shape.n t.shape.counts t.sent × BookFits t.shape.n t.shape.counts t.received
  unfolding tables_question contents_question
  accepted h =
      let counts : List ℕ = take t.shape.n t.shape.counts in
      let a = then_none (length_question t.sent t.received) _ h in
      let b = then_none (size_question t.shape.n) _ a.1 in
      let c = then_none (counts_question 0 counts) _ b.1 in
      let lengths = both_yes 1 (eqb (length t.sent) 4096) (eqb (length t.received) 4096) a.0 in
      let size = both_yes 3 (leb 1 t.shape.n) (leb t.shape.n 16) b.0 in
      let most = leb-true t.shape.n 16 size.1 in
      let inside : sum counts ≤ 256 = omega (arith, counts_few 0 counts (omega arith) c.0) in
      let s = eqb-true (length t.sent) 4096 lengths.0 in
      let r = eqb-true (length t.received) 4096 lengths.1 in
      (record { most = most; inside = inside; whole = s }, record { most = most; inside = inside; whole = r })

  module _ (out : List ℕ) where
    fits_buffer : Unit {0} → ℕ
    fits_buffer _ = ask 17 (leb (length (bytes_of t)) (length out))

    -- a question of the tables fails
    pub refused : {q : ℕ} → tables_question t ≡ q → (tables_question t ≡ 0 → ⊥)
        → (write_question t out ≡ q) × (out ≡ bytes_written t out)
    unfolding bytes_written write_question fits_buffer
    refused {q} e f =
        let w : write_question t out ≡ tables_question t = then_refused (tables_question t) fits_buffer f in
        (w ∙ e, sym (kept_refused (write_question t out) out _ (λ z. f (sym w ∙ z))))

    module _ (e : tables_question t ≡ 0) where
      -- question 17 fails
      pub full : leb (length (bytes_of t)) (length out) ≡ false
          → (by_number {A = ℕ} (Err Room) ≡ answer_to_write t out) × (out ≡ bytes_written t out)
      unfolding answer_to_write answer_with bytes_written write_question
      full h = rw (e, h) (refl, refl)

      -- none fails
      pub written : {size : ℕ} {out' : List ℕ} → leb (length (bytes_of t)) (length out) ≡ true
          → size ≡ length (bytes_of t) → out' ≡ sets out 0 (bytes_of t)
          → (by_number {A = ℕ} (Ok size) ≡ answer_to_write t out) × (out' ≡ bytes_written t out)
      unfolding answer_to_write answer_with bytes_written write_question
      written h same w = rw (e, h) (ap Ok same, w)
