-- Question 5 of all counts: a loop along them.
use mathlib.Core.Path.{◌≡◌, refl, sym, ap, ◌∙◌}
use mathlib.Core.List.{List, [], ◌∷◌}
use Prim.Native.Nat.{ℕ, ◌+◌, ◌-◌, ◌≤◌, ◌<◌}
use native.Mathlib.Numerals.{add-one}
use native.Mathlib.Omega.{arith}
use borrow.Author.Tests.{le-leb, lt-leb}
use lib.ListN.{length, take, get_or, drop_of_length-le}
use lib.Seq.{slice, slice-cons, length-take-le}
use Rattle.book.specs.Check.{counts_question}

counts_none : (s : ℕ) → counts_question s [] ≡ 0
unfolding counts_question
counts_none s = refl

module _ (s count : ℕ) (counts : List ℕ) where
  counts_low : count < 1 → counts_question s (count ∷ counts) ≡ 5
  unfolding counts_question
  counts_low h = rw (lt-leb 1 count h)

  counts_high : 1 ≤ count → 256 < s + count → counts_question s (count ∷ counts) ≡ 5
  unfolding counts_question
  counts_high h k = rw (le-leb 1 count h, lt-leb (s + count) 256 k)

  counts_good : 1 ≤ count → s + count ≤ 256 → counts_question s (count ∷ counts) ≡ counts_question (s + count) counts
  unfolding counts_question
  counts_good h k = rw (le-leb 1 count h, le-leb (s + count) 256 k)

-- `whole` is the answer for all counts: those before j pass, and add up to s
pub record Counted (whole : ℕ) (counts : List ℕ) (n s j : ℕ) : Type 0 where
  pub passed : j ≤ n
  pub fits : n ≤ length counts
  pub below : s ≤ 256
  pub rest : whole ≡ counts_question s (slice j n counts)

module _ (whole : ℕ) (counts : List ℕ) (n s j : ℕ) (t : Counted whole counts n s j) where
  next : j < n → whole ≡ counts_question s (get_or counts j 0 ∷ slice (j + 1) n counts)
  next h = rw add-one (t.rest ∙ ap (counts_question s) (slice-cons j n counts 0 h t.fits))

  pub counted_low : j < n → get_or counts j 0 < 1 → 5 ≡ whole
  counted_low h k = sym (next h ∙ counts_low s (get_or counts j 0) (slice (j + 1) n counts) k)

  pub counted_high : j < n → 1 ≤ get_or counts j 0 → 256 - s < get_or counts j 0 → 5 ≡ whole
  counted_high h k l = sym (next h ∙ counts_high s (get_or counts j 0) (slice (j + 1) n counts) k (omega arith))

  pub counted_more : j < n → 1 ≤ get_or counts j 0 → get_or counts j 0 ≤ 256 - s
      → Counted whole counts n (s + get_or counts j 0) (j + 1)
  counted_more h k l =
      record {
        passed = omega arith;
        fits = t.fits;
        below = omega arith;
        rest = next h ∙ counts_good s (get_or counts j 0) (slice (j + 1) n counts) k (omega arith);
      }

  pub counted_end : n ≤ j → 0 ≡ whole
  counted_end h =
      sym (t.rest
      ∙ ap (counts_question s) (drop_of_length-le (take n counts) {i = j} (rw (length-take-le n counts t.fits) h))
      ∙ counts_none s)
