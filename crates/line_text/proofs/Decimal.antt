-- The digits of a number, last digit apart, and how many bytes the parts of a text take at most.
-- Assumes nothing.
use mathlib.Core.Path.{◌≡◌, sym, ap, ◌∙◌}
use mathlib.Core.List.{List, [], ◌∷◌, ◌++◌}
use Prim.Native.Nat.{ℕ, zero, suc, ◌+◌, ◌*◌, ◌^◌, ◌/◌, ◌%◌, ◌≤◌, ◌<◌}
use native.Mathlib.Decide.{dec_lt}
use native.Mathlib.Nat.{pow-suc}
use native.Mathlib.Omega.{arith}
use borrow.Author.Tests.{lt-ltb, le-ltb}
use lib.ListN.{length, get_or, length-append}
use Rattle.book.specs.declared.Checkpoint.{Checkpoint}
use Rattle.line_text.specs.Ascii.{ascii}
use Rattle.line_text.specs.Text.{digits_of, decimal, spaced, labelled, checkpoint_numbers, first_lines}

-- ---- one digit, and more

digits_last : (fuel n : ℕ) → n < 10 → digits_of (suc fuel) n ≡ (48 + n) ∷ []
unfolding digits_of
digits_last fuel n h = rw (lt-ltb n 10 h, digits_of)

digits_more : (fuel n : ℕ) → 10 ≤ n → digits_of (suc fuel) n ≡ digits_of fuel (n / 10) ++ ((48 + n % 10) ∷ [])
unfolding digits_of
digits_more fuel n h = rw (le-ltb n 10 h, digits_of)

-- where the digits are fewer than the fuel, one more of fuel changes nothing
digits_fuel : (fuel n : ℕ) → n < 10 * 10 ^ fuel → digits_of (suc (suc fuel)) n ≡ digits_of (suc fuel) n
digits_fuel zero n h = digits_last 1 n (omega arith) ∙ sym (digits_last 0 n (omega arith))
digits_fuel (suc fuel) n h =
    elim (dec_lt n 10) [
      | yes k ↦ digits_last (suc (suc fuel)) n k ∙ sym (digits_last (suc fuel) n k)
      | no k ↦
          let s : n / 10 < 10 * 10 ^ fuel = omega (arith, pow-suc 10 fuel) in
          rw (digits_more (suc (suc fuel)) n (omega arith), digits_more (suc fuel) n (omega arith), digits_fuel fuel (n / 10) s)
    ]

pub decimal_last : (n : ℕ) → n < 10 → decimal n ≡ (48 + n % 10) ∷ []
unfolding decimal
decimal_last n h = let e : n % 10 ≡ n = omega arith in rw e (digits_last 19 n h)

pub decimal_more : (n : ℕ) → n < 2 ^ 64 → 10 ≤ n → decimal n ≡ decimal (n / 10) ++ ((48 + n % 10) ∷ [])
unfolding decimal
decimal_more n h k = digits_more 19 n k ∙ ap (λ (l : List ℕ). l ++ ((48 + n % 10) ∷ [])) (sym (digits_fuel 18 (n / 10) (omega arith)))

pub decimal_one : (n : ℕ) → n < 10 → length (decimal n) ≡ 1
decimal_one n h = ap length (decimal_last n h)

pub decimal_size : (n : ℕ) → n < 2 ^ 64 → 10 ≤ n → length (decimal n) ≡ length (decimal (n / 10)) + 1
decimal_size n h k = ap length (decimal_more n h k) ∙ length-append (decimal (n / 10)) ((48 + n % 10) ∷ [])

-- ---- the most bytes

digits_most : (fuel n : ℕ) → length (digits_of fuel n) ≤ fuel
unfolding digits_of
digits_most zero n = omega arith
digits_most (suc fuel) n =
    elim (dec_lt n 10) [
      | yes h ↦ rw (digits_last fuel n h) (omega arith)
      | no h ↦ rw (digits_more fuel n (omega arith)) (simp length-append (omega (arith, digits_most fuel (n / 10))))
    ]

pub decimal_most : (n : ℕ) → length (decimal n) ≤ 20
unfolding decimal
decimal_most n = digits_most 20 n

pub spaced_most : (n : ℕ) → length (spaced n) ≤ 21
unfolding spaced
spaced_most n = omega (arith, decimal_most n)

pub row_most : (word : List ℕ) (n : ℕ) → length (labelled word n) ≤ length word + 22
unfolding labelled
row_most word n = simp length-append (omega (arith, spaced_most n))

pub numbers_most : (n : ℕ) (set : List Checkpoint) → length (checkpoint_numbers n set) ≤ 21 * n
unfolding checkpoint_numbers
numbers_most zero set = omega arith
numbers_most (suc j) set =
    simp length-append (omega (arith, numbers_most j set, spaced_most (get_or set j (record { 0 = 0 })).0))

pub first_lines_most : (n : ℕ) (set : List Checkpoint) → n ≤ 16 → length (first_lines n set) ≤ 372
unfolding first_lines
first_lines_most n set h = simp length-append (omega (arith, row_most (ascii "processes") n, numbers_most n set))
