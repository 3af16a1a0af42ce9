-- A book that passes questions 3 to 8, and the questions along its numbers.
use mathlib.Core.Path.{◌≡◌, ap, subst}
use mathlib.Core.Bool.{Bool, true}
use mathlib.Core.List.{List, [], ◌∷◌}
use Prim.Native.Nat.{ℕ, ◌≤◌}
use native.Mathlib.Omega.{arith}
use lib.ListN.{length}
use Rattle.book.specs.Layout.{width, Book, numbers_of_processes, book_numbers, processes_in, book_in}
use Rattle.book.specs.Questions.{size_question}
use Rattle.book.specs.Along.{processes_question, book_question}
use Rattle.book.proofs.Questions.{then_none, then_both}
use Rattle.round_trips.proofs.Numbers.{in_numbers}
use Rattle.round_trips.proofs.Sound.{Sound, numbers_sound, sound_numbers}
use Rattle.book.proofs.Counts.{size_taken, size_given_lem}

pub record Good (mark : ℕ) (book : Book) : Type 0 where
  pub some : 1 ≤ book.n
  pub few : book.n ≤ 16
  pub long : length book.processes ≡ book.n
  pub sound : Sound mark book.n 0 book.processes

-- numbers that pass are those of a good book, with nothing after them
pub numbers_good : (mark : ℕ) (ended : Bool) (vs : List ℕ) → book_question mark ended vs ≡ 0
    → (ended ≡ true) × (book_numbers (book_in vs) ≡ vs) × Good mark (book_in vs)
unfolding book_question
numbers_good mark ended [] h = absurd (omega arith)
numbers_good mark ended (n ∷ vs) h =
    let b = then_none (size_question n) (λ _. processes_question mark n n 0 ended vs) h in
    let size = size_taken n b.0 in
    let whole = numbers_sound mark n n 0 ended vs b.1 in (
      whole.end,
      ap {B = List ℕ} (λ r. n ∷ r) whole.same,
      record { some = size.0; few = size.1; long = whole.long; sound = whole.sound },
    )

module _ (mark : ℕ) (book : Book) (good : Good mark book) where
  -- the numbers of a good book pass
  pub good_numbers : book_question mark true (book_numbers book) ≡ 0
  unfolding book_question
  good_numbers =
      then_both (size_question book.n) (λ _. processes_question mark book.n book.n 0 true (numbers_of_processes book.processes))
      (size_given_lem book.n good.some good.few)
      (subst (λ (left : ℕ). processes_question mark book.n left 0 true (numbers_of_processes book.processes) ≡ 0) good.long
      (sound_numbers mark book.n 0 book.processes good.sound))

  -- and make the book again
  pub good_in : book_in (book_numbers book) ≡ book
  good_in =
      ap {B = Book} (λ ps. record { n = book.n; processes = ps })
      (subst (λ (left : ℕ). processes_in left (width book.n) (numbers_of_processes book.processes) ≡ book.processes) good.long
      (in_numbers (width book.n) book.processes good.sound.wide))
