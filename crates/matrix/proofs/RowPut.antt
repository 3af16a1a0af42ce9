-- A row is put into a matrix: the other rows stay.
use mathlib.Core.Path.{◌≡◌, ap, sym, ◌∙◌}
use mathlib.Core.List.{List, ◌++◌}
use Prim.Native.Nat.{ℕ, ◌+◌, ◌-◌, ◌*◌, ◌/◌, ◌%◌, ◌≤◌, ◌<◌}
use native.Mathlib.Decide.{dec_lt}
use native.Mathlib.Omega.{arith}
use borrow.Author.Tests.{eq-eqb, ne_eqb}
use borrow.Rule.Slice.PartMut.{put_mid, same_len_mid}
use lib.ListN.{length, take, drop, get_or, get_or-append, length-drop}
use lib.Seq.{get_or-append_right, get_or-take, get_or-drop}
use lib.Dec.{eqb}
use Rattle.std.proofs.Common.{length-take-le}
use Rattle.lists.specs.Pick.{pick}
use Rattle.lists.proofs.Pick.{pick_no}
use Rattle.book.specs.declared.Count.{Count}
use Rattle.book.proofs.Values.{tally, tally_of}
use Rattle.consistency.specs.Known.{counters}
use Rattle.matrix.specs.Matrix.{entry}

-- what stands at a place then, where the row begins at `first`
abbrev pub row_put : List Count → List Count → ℕ → ℕ → Count
row_put matrix entries first i =
    tally (pick (eqb (i / 16) (first / 16)) (counters entries (i % 16)) (entry matrix (i / 16) (i % 16)))

module _ (matrix entries : List Count) (first : ℕ) where
  in_row : (p : ℕ) → first ≡ first / 16 * 16 → p < 16 → get_or entries p (tally 0) ≡ row_put matrix entries first (first + p)
  in_row p begins h =
      let across : (first + p) % 16 ≡ p = omega arith in
      let down : (first + p) / 16 ≡ first / 16 = omega arith in
      tally_of (rw (eq-eqb ((first + p) / 16) (first / 16) down, across))

  in_others : (i : ℕ) → (i / 16 ≡ first / 16 → ⊥) → get_or matrix i (tally 0) ≡ row_put matrix entries first i
  in_others i other =
      let place : i ≡ i / 16 * 16 + i % 16 = omega arith in
      tally_of (ap (counters matrix) place ∙ pick_no (eqb (i / 16) (first / 16)) _ _ (ne_eqb (i / 16) (first / 16) other))

  module _ (begins : first ≡ first / 16 * 16) (room : first + 16 ≤ length matrix) (long : length entries ≡ 16) where
    after : (i : ℕ) → first ≤ i → get_or (entries ++ drop 16 (drop first matrix)) (i - first) (tally 0) ≡ row_put matrix entries first i
    after i l = elim (dec_lt (i - first) 16) [
      | yes m ↦
          let e : first + (i - first) ≡ i = omega arith in
          get_or-append entries _ (tally 0) (i - first) (omega (arith, long)) ∙ rw e at (in_row (i - first) begins m)
      | no m ↦
          let e : first + (16 + (i - first - 16)) ≡ i = omega arith in
          get_or-append_right entries _ (i - first) (tally 0) (omega (arith, long))
          ∙ ap (λ (n : ℕ). get_or (drop 16 (drop first matrix)) (i - first - n) (tally 0)) long
          ∙ get_or-drop 16 (drop first matrix) (i - first - 16) (tally 0)
          ∙ get_or-drop first matrix (16 + (i - first - 16)) (tally 0)
          ∙ rw e (in_others i (λ e. absurd (omega arith)))
    ]

    pub row_put_at : (i : ℕ) → get_or (put_mid first 16 matrix entries) i (tally 0) ≡ row_put matrix entries first i
    row_put_at i =
        let before : length (take first matrix) ≡ first = length-take-le first matrix (omega arith) in
        elim (dec_lt i first) [
          | yes l ↦
              get_or-append (take first matrix) _ (tally 0) i (omega (arith, before)) ∙ get_or-take first matrix i (tally 0) l
              ∙ in_others i (λ e. absurd (omega arith))
          | no l ↦
              get_or-append_right (take first matrix) _ i (tally 0) (omega (arith, before))
              ∙ ap (λ (n : ℕ). get_or (entries ++ drop 16 (drop first matrix)) (i - n) (tally 0)) before
              ∙ after i (omega arith)
        ]

    pub row_put_long : length (put_mid first 16 matrix entries) ≡ length matrix
    row_put_long =
        same_len_mid first 16 matrix entries
        (long ∙ sym (length-take-le 16 (drop first matrix) (omega (arith, length-drop first matrix))))
